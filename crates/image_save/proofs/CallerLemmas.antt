-- What a consistent state gives for a save of the places that were made as it.
use Rattle.std.proofs.Common.{ℕ, zero, suc, ◌+◌, ◌*◌, ◌≤◌, Bool, true, false, List, map, refl, sym, subst}
use Rattle.std.specs.Prelude.{IsTrue, ◌&&◌}
use Rattle.std.specs.List.{range_with_len, list_all}
use Rattle.std.proofs.lemmas.Bool.{le-leb}
use Rattle.svsm_types.specs.Hardware.{right_of}
use Rattle.svsm_types.specs.declared.image.Image.{Image}
use Rattle.svsm_types.specs.declared.owner.RmpRow.{RmpRow}
use Rattle.svsm_types.specs.declared.vcpu.Row.{Row}
use Rattle.svsm_steps.specs.Mapped.{AreRows}
use Rattle.svsm_steps.specs.State.{State, page_at, row_at, rmp_rows}
use Rattle.svsm_laws.specs.Consistent.{IsConsistent}
use Rattle.place_core.specs.PlaceView.{PlaceView}
use Rattle.image_text.specs.Collected.{has_four_bits}
use Rattle.image_save.specs.Standing.{standing}
use Rattle.image_save.specs.Stood.{StandAs}

both : (a b : Bool) → IsTrue a → IsTrue b → IsTrue (a && b)
both true b h k = k
both false b h k = cc

four : (state : State) (page : ℕ) → ((page vmpl : ℕ) → right_of vmpl (page_at page state) ≤ 15) → IsTrue (has_four_bits (row_at page state))
four state page rights =
    both _ _ (le-leb (right_of 1 (page_at page state)) 15 (rights page 1))
    (both _ _ (le-leb (right_of 2 (page_at page state)) 15 (rights page 2)) (le-leb (right_of 3 (page_at page state)) 15 (rights page 3)))

four_from : (state : State) (first count : ℕ) → ((page vmpl : ℕ) → right_of vmpl (page_at page state) ≤ 15)
    → IsTrue (list_all has_four_bits (map (λ page. row_at page state) (range_with_len first count)))
four_from state first zero rights = refl
four_from state first (suc count) rights = both _ _ (four state first rights) (four_from state (first + 1) count rights)

pub bits_stand : (image : Image) (state : State) (places : List PlaceView) → StandAs image state places → IsConsistent image.regions state
    → IsTrue (list_all has_four_bits (rmp_rows image.regions (standing image.regions places)))
bits_stand image state places stand fine =
    subst (λ (rows : List RmpRow). IsTrue (list_all has_four_bits rows)) (sym stand.pages) (four_from state 0 (512 * image.regions) fine.rights)

pub rows_stand : (image : Image) (state : State) (places : List PlaceView) → StandAs image state places → IsConsistent image.regions state
    → AreRows image.regions (standing image.regions places).rows
rows_stand image state places stand fine = subst (λ (rows : List Row). AreRows image.regions rows) (sym stand.rows) fine.mapped.1
