use Rattle.std.proofs.Common.{◌∙◌, ◌++◌, ap, sym, subst, inr, arith, List, Option, ℕ}
use Rattle.std.specs.Prelude.{IsTrue}
use Rattle.std.specs.List.{list_all}
use Rattle.svsm_types.specs.declared.image.Image.{Image}
use Rattle.image_text.specs.Refused.{first_core, first_unsaved_page, by_core}
use Rattle.image_text.specs.Saved.{saved}
use Rattle.image_text.specs.Written.{image_text, is_addressed}
use Rattle.image_save.specs.Gathered.{first_unsaid}
use Rattle.image_save.specs.Standing.{standing}
use Rattle.image_save.proofs.GatherLemmas.{unsaid_is, are_addressed}
use Rattle.image_save.proofs.ToldLemmas.{told_page, told_long, told_text}
use Rattle.image_save.proofs.saving.save.Goals as goal

pub returns-in-Some-first_unsaid-clause-told : goal.returns-in-Some-first_unsaid-clause-told
returns-in-Some-first_unsaid-clause-told c =
    let image = c.args.image.now in
    let state = standing image.regions c.args.places.now in
    let run = first_core c.args.cores.now in
    let text = image_text (saved image state) in
    inr (ap (λ (r : Option (ℕ × ℕ)). by_core run r (first_unsaved_page image state) text) c.in_default-refused.is
    ∙ told_page run (first_unsaved_page image state) c.in-Some-first_unsaid.page text c.in_default.ensures
    (c.in-Some-first_unsaid.ensures ∙ ap (first_unsaid image.ghcb.0 0) (c.deref.ensures.value ∙ c.in_ok-rows.ensures) ∙ unsaid_is image state))

pub put_image-requires : goal.put_image-requires
put_image-requires c =
    let image = c.args.image.now in
    let state = standing image.regions c.args.places.now in
    subst (λ (now : Image). IsTrue (list_all is_addressed now.cores)) (sym c.in_ok-now.ensures.saved)
    (are_addressed image.regions state.rows image.cores c.requires.stand.most c.requires.rows)

pub returns-then-len-gt-LONGEST-clause-told : goal.returns-then-len-gt-LONGEST-clause-told
returns-then-len-gt-LONGEST-clause-told c =
    let image = c.args.image.now in
    let state = standing image.regions c.args.places.now in
    let run = first_core c.args.cores.now in
    let text = image_text (saved image state) in
    inr (ap (λ (r : Option (ℕ × ℕ)). by_core run r (first_unsaved_page image state) text) c.in_default-refused.is
    ∙ told_long run (first_unsaved_page image state) text c.put_image.new.out.items c.in_default.ensures
    (c.in_default-first_unsaid.ensures ∙ ap (first_unsaid image.ghcb.0 0) (c.deref.ensures.value ∙ c.in_ok-rows.ensures) ∙ unsaid_is image state)
    (c.in_ok-put_image.ensures ∙ ap (λ (l : List ℕ). l ++ image_text c.in_ok-now.now) c.new-text.ensures.items ∙ ap image_text c.in_ok-now.ensures.saved)
    (omega (arith, c.if-len-gt-LONGEST.true, c.len.ensures)))

pub returns-clause-told : goal.returns-clause-told
returns-clause-told c =
    let image = c.args.image.now in
    let state = standing image.regions c.args.places.now in
    let run = first_core c.args.cores.now in
    let text = image_text (saved image state) in
    ap (λ (r : Option (ℕ × ℕ)). by_core run r (first_unsaved_page image state) text) c.in_default-refused.is
    ∙ told_text run (first_unsaved_page image state) text c.put_image.new.out.items c.in_default.ensures
    (c.in_default-first_unsaid.ensures ∙ ap (first_unsaid image.ghcb.0 0) (c.deref.ensures.value ∙ c.in_ok-rows.ensures) ∙ unsaid_is image state)
    (c.in_ok-put_image.ensures ∙ ap (λ (l : List ℕ). l ++ image_text c.in_ok-now.now) c.new-text.ensures.items ∙ ap image_text c.in_ok-now.ensures.saved)
    (omega (arith, c.if-len-gt-LONGEST.false, c.len.ensures))
