use Rattle.std.proofs.Common.{◌≡◌, ◌∙◌, ◌+◌, ◌++◌, ◌∷◌, [], List, ap, sym, subst, arith, append_assoc, true, false}
use Rattle.svsm_types.specs.declared.image.Range.{Range}
use Rattle.image_text.specs.Saved.{Saying, same_saying, range_at}
use Rattle.image_text.specs.Collected.{AreUpTo}
use Rattle.image_text.proofs.CollectLemmas.{put_same, put_other, up_last}
use Rattle.image_text.proofs.collect.put_page.Goals as goal

pub overflow_add-count : goal.overflow_add-count
overflow_add-count c =
    let most = up_last c.args.page.0 c.pop.new.self.items c.in-Some.last (subst (AreUpTo c.args.page.0) c.in-Some.ensures.items c.requires.up) in
    omega (arith, most, c.requires.few)

pub returns-then-says_same : goal.returns-then-says_same
returns-then-says_same c =
    c.push_reserved.ensures.items
    ∙ put_same c.args.ranges.now.items c.pop.new.self.items c.in-Some.last c.args.page.0 _ c.in-Some.ensures.items (sym c.says_same.ensures ∙ c.if-says_same.true)

pub returns : goal.returns
returns c =
    let says : Saying = record { owner = c.args.saying.now.owner; state = c.args.saying.now.state; rights = c.args.saying.now.rights } in
    c.in_ok-push-2.ensures.items
    ∙ ap (λ (l : List Range). l ++ range_at c.args.page.0 1 says ∷ []) c.push_reserved-2.ensures.items
    ∙ append_assoc c.pop.new.self.items (c.in-Some.last ∷ []) (range_at c.args.page.0 1 says ∷ [])
    ∙ put_other c.args.ranges.now.items c.pop.new.self.items c.in-Some.last c.args.page.0 says c.in-Some.ensures.items (sym c.says_same.ensures ∙ c.if-says_same.false)
