use Rattle.std.proofs.Common.{ℕ, refl, sym, ◌∙◌}
use Rattle.std.specs.List.{list_any}
use Rattle.svsm_steps.specs.Image.{range_of}
use Rattle.svsm_steps.specs.Sound.{has_vmsa}
use Rattle.image_grammar.specs.End.{is_vmsa_page, same}
use Rattle.image_reader.proofs.TableLemmas.{all_next, not_all}
use Rattle.image_reader.proofs.draft.Draft.are_seats.Goals as goal

pub pages-preserved : goal.pages-preserved
pages-preserved c =
    let image = c.args.self.now.image in
    record { seats = all_next (λ (page : ℕ). same (list_any (has_vmsa page) image.cores) (is_vmsa_page (range_of image page))) c.pages.page c.pages.invariant.seats (sym c.is_right_seat.ensures ∙ c.if-not-is_right_seat.false) }

pub returns-then-not-is_right_seat : goal.returns-then-not-is_right_seat
returns-then-not-is_right_seat c =
    let image = c.args.self.now.image in
    sym (not_all (λ (page : ℕ). same (list_any (has_vmsa page) image.cores) (is_vmsa_page (range_of image page))) _ c.pages.page _ refl c.pages-test.true (sym c.is_right_seat.ensures ∙ c.if-not-is_right_seat.true))
