-- Each line that was written tells what it was written of.
use Rattle.std.proofs.Common.{◌≡◌, ℕ, zero, suc, ◌+◌, ◌*◌, ◌/◌, ◌%◌, ◌^◌, ◌<◌, ◌≤◌, Bool, true, false, List, [], ◌∷◌, ◌++◌, length, refl, sym, ap, ◌∙◌, subst, arith}
use Rattle.std.specs.Prelude.{⊤, if◌then◌else◌, ◌&&◌, ◌||◌, ◌==◌, nat_le, nat_lt, Option, Some, None, Result, Ok, Err, codes, IsTrue}
use Rattle.std.specs.Option.{option_map_or}
use Rattle.std.proofs.lemmas.Bool.Decides.{nat_tests}
use Rattle.hex.specs.Hex.{decode_of}
use Rattle.svsm_types.specs.Pages.{page_of, is_multiple, is_in_map}
use Rattle.svsm_types.specs.declared.address.Page.{Page}
use Rattle.svsm_types.specs.declared.address.Gpa.{Gpa}
use Rattle.svsm_types.specs.declared.image.Image.{Image}
use Rattle.svsm_types.specs.declared.image.Range.{Range}
use Rattle.svsm_types.specs.declared.image.CoreLine.{CoreLine}
use Rattle.svsm_types.specs.declared.image.Fill.{Fill}
use Rattle.svsm_types.specs.declared.owner.Owner.{Owner}
use Rattle.svsm_types.specs.declared.platform.HwState.{HwState}
use Rattle.svsm_types.specs.declared.platform.Size.{Size}
use Rattle.svsm_types.specs.declared.platform.Size.TheVariants.{Small, Large}
use Rattle.svsm_types.specs.declared.platform.Vmpl.{Vmpl}
use Rattle.svsm_text.specs.Numbers.{number, number_in}
use Rattle.svsm_text.proofs.NumberLemmas.{read_again}
use Rattle.svsm_steps.specs.Sound.{is_level}
use Rattle.image_grammar.specs.declared.kind.ImageKind.{ImageKind}
use Rattle.image_grammar.specs.declared.kind.ImageKind.TheVariants as kinds
use Rattle.image_grammar.specs.declared.item.Item.{Item}
use Rattle.image_grammar.specs.declared.item.Item.TheVariants as items
use Rattle.image_grammar.specs.Told.{◌>>=◌, told, holds}
use Rattle.image_grammar.specs.Forms.{is_run, range_in, large_line as read_large, is_seat, level_of, level_in, parked_in, seated_in, words_in_bytes, whole_words, fill_in, block_line as read_block, size_of, item_line}
use Rattle.image_grammar.specs.Words.{owner_word, state_word}
use Rattle.image_text.specs.Written.{owner_field, state_field, size_field, words_field, range_fields, large_fields, core_fields, block_fields, fill_fields}
use Rattle.image_text.specs.ReadsAgain.{AreOf64Bits}
use Rattle.image_text.proofs.FieldLemmas.{owner_again, state_again, bytes_of, bytes_length, whole_again, words_again}

-- a value that was told, and a test that holds
told_some : {A B : Type 0} (kind : ImageKind) (o : Option A) (x : A) (next : A → Result B ImageKind) → o ≡ Some x → (told kind o >>= next) ≡ next x
told_some kind None x next e = cc
told_some kind (Some y) x next e = let same : y ≡ x = cc in ap next same

holds_true : {B : Type 0} (kind : ImageKind) (t : Bool) (next : Unit {0} → Result B ImageKind) → t ≡ true → (holds kind t >>= next) ≡ next tt
holds_true kind true next e = refl
holds_true kind false next e = cc

-- range
pub range_again : (image : Image) (range : Range) → range.first.0 < 2 ^ 64 → range.count < 2 ^ 64 → range.rights < 2 ^ 64
    → (is_run image.regions range.first.0 range.count && nat_le range.rights 0xfff) ≡ true
    → item_line image (range_fields range) ≡ Ok (items.Range range)
range_again image range f c r within =
    let first = read_again range.first.0 f in
    let count = read_again range.count c in
    let rights = read_again range.rights r in
    rw (owner_again range.owner, state_again range.state, first, count, rights, within) refl

pub large_again : (image : Image) (region : ℕ) → region < 2 ^ 64 → nat_lt region image.regions ≡ true → item_line image (large_fields region) ≡ Ok (items.Large region)
large_again image region small within =
    let number = read_again region small in
    rw (number, within) refl

-- core lines

-- whether a number is one of the guest's VMPLs
abbrev pub in_levels : Vmpl → Option Vmpl → ℕ → Bool
in_levels first second level = (level == first.0) || option_map_or (λ (other : Vmpl). level == other.0) second false

both_parts : (a b : Bool) → (a && b) ≡ true → (a ≡ true) × (b ≡ true)
both_parts true b is = (refl, is)
both_parts false b is = absurd cc

pub parked_one : (image : Image) (apic : ℕ) (vmpl : Vmpl) → image.second ≡ None → apic < 2 ^ 64 → vmpl.0 ≡ image.vmpl.0 → (nat_lt apic (2 ^ 32) && in_levels image.vmpl None image.vmpl.0) ≡ true
    → item_line image (core_fields None (record { apic = apic; seat = None; vmpl = vmpl })) ≡ Ok (items.Core (record { apic = apic; seat = None; vmpl = vmpl }))
parked_one image apic vmpl one small same within =
    let number = read_again apic small in
    let parts = both_parts (nat_lt apic (2 ^ 32)) (in_levels image.vmpl None image.vmpl.0) within in
    rw (one, number, parts.0, parts.1) (ap (λ (level : ℕ). Ok (items.Core (record { apic = apic; seat = None; vmpl = record { 0 = level } }))) (sym same))

pub parked_two : (image : Image) (apic : ℕ) (vmpl second : Vmpl) → image.second ≡ Some second → apic < 2 ^ 64 → vmpl.0 < 2 ^ 64 → (nat_lt apic (2 ^ 32) && in_levels image.vmpl (Some second) vmpl.0) ≡ true
    → item_line image (core_fields (Some second) (record { apic = apic; seat = None; vmpl = vmpl })) ≡ Ok (items.Core (record { apic = apic; seat = None; vmpl = vmpl }))
parked_two image apic vmpl second two small level within =
    let number = read_again apic small in
    let of_level = read_again vmpl.0 level in
    let parts = both_parts (nat_lt apic (2 ^ 32)) (in_levels image.vmpl (Some second) vmpl.0) within in
    rw (two, number, of_level, parts.0, parts.1) refl

seat_again : (apic : ℕ) (page : Page) (area : Gpa) (level : ℕ) (vmpl : Vmpl) → level ≡ vmpl.0
    → (let r : Result Item ImageKind = Ok (items.Core (record { apic = apic; seat = Some (record { 0 = page_of (4096 * page.0) }, record { 0 = area.0 }); vmpl = record { 0 = level } })) in r)
    ≡ Ok (items.Core (record { apic = apic; seat = Some (page, area); vmpl = vmpl }))
seat_again apic page area level vmpl same =
    let e : page_of (4096 * page.0) ≡ page.0 = omega arith in
    ap (λ (p : ℕ). let r : Result Item ImageKind = Ok (items.Core (record { apic = apic; seat = Some (record { 0 = p }, area); vmpl = record { 0 = level } })) in r) e
    ∙ ap (λ (l : ℕ). let r : Result Item ImageKind = Ok (items.Core (record { apic = apic; seat = Some (page, area); vmpl = record { 0 = l } })) in r) same

pub seated_one : (image : Image) (apic : ℕ) (page : Page) (area : Gpa) (vmpl : Vmpl) → image.second ≡ None → apic < 2 ^ 64 → 4096 * page.0 < 2 ^ 64 → area.0 < 2 ^ 64 → image.vmpl.0 ≡ vmpl.0
    → ((nat_lt apic (2 ^ 32) && in_levels image.vmpl None image.vmpl.0) && is_seat image.regions (4096 * page.0) area.0) ≡ true
    → item_line image (core_fields None (record { apic = apic; seat = Some (page, area); vmpl = vmpl })) ≡ Ok (items.Core (record { apic = apic; seat = Some (page, area); vmpl = vmpl }))
seated_one image apic page area vmpl one small p a same within =
    let number = read_again apic small in
    let of_page = read_again (4096 * page.0) p in
    let of_area = read_again area.0 a in
    let parts = both_parts (nat_lt apic (2 ^ 32) && in_levels image.vmpl None image.vmpl.0) (is_seat image.regions (4096 * page.0) area.0) within in
    let firsts = both_parts (nat_lt apic (2 ^ 32)) (in_levels image.vmpl None image.vmpl.0) parts.0 in
    let test : (nat_lt apic (2 ^ 32) && is_seat image.regions (4096 * page.0) area.0) ≡ true = rw firsts.0 parts.1 in
    rw (one, number, of_page, of_area, test, firsts.1) (seat_again apic page area image.vmpl.0 vmpl same)

pub seated_two : (image : Image) (apic : ℕ) (page : Page) (area : Gpa) (vmpl second : Vmpl) → image.second ≡ Some second → apic < 2 ^ 64 → 4096 * page.0 < 2 ^ 64 → area.0 < 2 ^ 64 → vmpl.0 < 2 ^ 64
    → ((nat_lt apic (2 ^ 32) && in_levels image.vmpl (Some second) vmpl.0) && is_seat image.regions (4096 * page.0) area.0) ≡ true
    → item_line image (core_fields (Some second) (record { apic = apic; seat = Some (page, area); vmpl = vmpl })) ≡ Ok (items.Core (record { apic = apic; seat = Some (page, area); vmpl = vmpl }))
seated_two image apic page area vmpl second two small p a l within =
    let number = read_again apic small in
    let of_page = read_again (4096 * page.0) p in
    let of_area = read_again area.0 a in
    let of_level = read_again vmpl.0 l in
    let parts = both_parts (nat_lt apic (2 ^ 32) && in_levels image.vmpl (Some second) vmpl.0) (is_seat image.regions (4096 * page.0) area.0) within in
    let firsts = both_parts (nat_lt apic (2 ^ 32)) (in_levels image.vmpl (Some second) vmpl.0) parts.0 in
    let test : (nat_lt apic (2 ^ 32) && is_seat image.regions (4096 * page.0) area.0) ≡ true = rw firsts.0 parts.1 in
    rw (two, number, of_page, of_area, of_level, test, firsts.1) (seat_again apic page area vmpl.0 vmpl refl)

-- blocks

pub block_again : (image : Image) (page : Page) (size : Size) → page.0 < 2 ^ 64 → is_in_map image.regions page.0 ≡ true
    → item_line image (block_fields (page, size)) ≡ Ok (items.Block (page, size))
block_again image page Small small within =
    let number = read_again page.0 small in
    let of_size = read_again 0 (omega arith) in
    rw (number, of_size, within) refl
block_again image page Large small within =
    let number = read_again page.0 small in
    let of_size = read_again 1 (omega arith) in
    rw (number, of_size, within) refl

pub split_again : (image : Image) → item_line image (codes "pool" ∷ codes "split" ∷ []) ≡ Ok items.Split
split_again image = refl

pub announce_again : (image : Image) → item_line image (codes "announce" ∷ []) ≡ Ok items.Announce
announce_again image = refl

-- contents

pub fill_again : (image : Image) (fill : Fill) → fill.gpa.0 < 2 ^ 64 → AreOf64Bits fill.words → 0 < length fill.words
    → (is_multiple 8 fill.gpa.0 && nat_le (fill.gpa.0 + length (bytes_of fill.words)) (4096 * (512 * image.regions))) ≡ true
    → item_line image (fill_fields fill) ≡ Ok (items.Bytes fill)
fill_again image fill small words some within =
    let number = read_again fill.gpa.0 small in
    let whole = whole_again fill.words some in
    rw (number, whole, within) (ap (λ (ws : List ℕ). let r : Result Item ImageKind = Ok (items.Bytes (record { gpa = fill.gpa; words = ws })) in r) (words_again fill.words words))
