use Rattle.std.proofs.Common.{ℕ, refl, sym, ◌∙◌}
use Rattle.std.specs.Prelude.{not, ◌||◌}
use Rattle.svsm_steps.specs.Image.{range_of}
use Rattle.svsm_steps.specs.Sound.{is_accepted}
use Rattle.image_grammar.specs.End.{is_guest_shared}
use Rattle.image_reader.proofs.TableLemmas.{all_next, not_all}
use Rattle.image_reader.proofs.draft.Draft.are_free.Goals as goal

pub pages-preserved : goal.pages-preserved
pages-preserved c =
    let image = c.args.self.now.image in
    record { free = all_next (λ (page : ℕ). not (is_accepted image page) || is_guest_shared (range_of image page)) c.pages.page c.pages.invariant.free (sym c.is_right_accept.ensures ∙ c.if-not-is_right_accept.false) }

pub returns-then-not-is_right_accept : goal.returns-then-not-is_right_accept
returns-then-not-is_right_accept c =
    let image = c.args.self.now.image in
    sym (not_all (λ (page : ℕ). not (is_accepted image page) || is_guest_shared (range_of image page)) _ c.pages.page _ refl c.pages-test.true (sym c.is_right_accept.ensures ∙ c.if-not-is_right_accept.true))
