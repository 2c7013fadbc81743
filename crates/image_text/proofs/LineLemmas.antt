-- The lines of an image, one behind another, are told again.
use Rattle.std.proofs.Common.{◌≡◌, ℕ, zero, suc, ◌+◌, ◌*◌, ◌-◌, ◌^◌, ◌<◌, ◌≤◌, Bool, true, false, List, [], ◌∷◌, ◌++◌, length, refl, sym, ap, ◌∙◌, subst, arith, append_assoc}
use Rattle.std.specs.Prelude.{⊤, if◌then◌else◌, ◌&&◌, ◌||◌, ◌==◌, not, nat_le, nat_lt, Option, Some, None, Result, Ok, Err, map, codes}
use Rattle.std.proofs.lemmas.List.{append-nil}
use Rattle.std.proofs.lemmas.Bool.Decides.{nat_tests}
use Rattle.svsm_types.specs.declared.address.Page.{Page}
use Rattle.svsm_types.specs.declared.image.Image.{Image}
use Rattle.svsm_types.specs.declared.image.Range.{Range}
use Rattle.svsm_types.specs.declared.image.Span.{Span}
use Rattle.svsm_types.specs.declared.image.CoreLine.{CoreLine}
use Rattle.svsm_types.specs.declared.image.Fill.{Fill}
use Rattle.svsm_types.specs.declared.image.FaultAt.{FaultAt}
use Rattle.svsm_types.specs.declared.image.HostLine.{HostLine}
use Rattle.svsm_types.specs.declared.platform.Size.{Size}
use Rattle.svsm_types.specs.declared.platform.Vmpl.{Vmpl}
use Rattle.svsm_text.specs.Lines.{fields}
use Rattle.svsm_text.specs.Numbers.{number, number_in}
use Rattle.svsm_text.proofs.NumberLemmas.{read_again}
use Rattle.image_grammar.specs.declared.kind.ImageKind.{ImageKind}
use Rattle.image_grammar.specs.declared.item.Item.{Item}
use Rattle.image_grammar.specs.declared.item.Item.TheVariants as items
use Rattle.image_grammar.specs.declared.head.Levels.{Levels}
use Rattle.image_grammar.specs.Told.{◌>>=◌, told, holds, at_line}
use Rattle.image_grammar.specs.Forms.{item_line}
use Rattle.image_grammar.specs.Kept.{Line}
use Rattle.image_grammar.specs.Grammar.{overlaps, is_lawful, with_item, lines_told}
use Rattle.image_grammar.specs.Image.{image_with, head_told, is_vmpl, title, head_line, levels_line, image_lines, image_of}
use Rattle.image_grammar.specs.End.{end_told}
use Rattle.image_grammar.specs.declared.words.Format.{Format}
use Rattle.image_grammar.specs.declared.words.Format.TheVariants as formats
use Rattle.image_text.specs.Written.{Fields, fields_text, image_text, title_fields, vmpl_fields, head_lines, only_if, item_lines, range_fields, large_fields, core_fields, block_fields, fill_fields}
use Rattle.image_text.proofs.TextLemmas.{numbered, fields_again, IsField, Begins, AllBegin, begin_append, AreLines, text_again}
use Rattle.image_text.proofs.FieldLemmas.{number_field}

-- ONE LINE

-- a line tells an item that may stand behind those before
abbrev pub IsTold : Image → Fields → Item → Type 0
IsTold image line item =
    (fields (fields_text line) ≡ line) × (item_line image line ≡ Ok item) × (overlaps image item ≡ false) × (is_lawful item ≡ true)

pub line_step : (image : Image) (n : ℕ) (line : Fields) (item : Item) (more : List Line) → IsTold image line item
    → lines_told image ((n, fields_text line) ∷ more) ≡ lines_told (with_item image item) more
line_step image n line item more h = rw (h.0, h.1, h.2, h.3) refl

-- LINES OF ONE KIND

-- each of them behind those before
abbrev pub FitsBy : {A : Type 0} → (A → Fields) → (A → Item) → (List A → Image) → List A → List A → Type 0
FitsBy line item put before [] = ⊤
FitsBy line item put before (x ∷ xs) = IsTold (put before) (line x) (item x) × FitsBy line item put (before ++ x ∷ []) xs

pub section : {A : Type 0} (line : A → Fields) (item : A → Item) (put : List A → Image) → ((before : List A) (x : A) → with_item (put before) (item x) ≡ put (before ++ x ∷ []))
    → (xs before : List A) (n : ℕ) (rest : List Fields) → FitsBy line item put before xs
    → lines_told (put before) (numbered n (map line xs ++ rest)) ≡ lines_told (put (before ++ xs)) (numbered (n + length xs) rest)
section line item put step [] before n rest h =
    let e : n ≡ n + 0 = omega arith in
    ap (λ (l : List _). lines_told (put l) (numbered n rest)) (sym (append-nil before)) ∙ ap (λ (m : ℕ). lines_told (put (before ++ [])) (numbered m rest)) e
section line item put step (x ∷ xs) before n rest h =
    let e : n + 1 + length xs ≡ n + length (x ∷ xs) = omega arith in
    line_step (put before) n (line x) (item x) (numbered (n + 1) (map line xs ++ rest)) h.0
    ∙ ap (λ (image : Image). lines_told image (numbered (n + 1) (map line xs ++ rest))) (step before x)
    ∙ section line item put step xs (before ++ x ∷ []) (n + 1) rest h.1
    ∙ ap (λ (l : List _). lines_told (put l) (numbered (n + 1 + length xs) rest)) (append_assoc before (x ∷ []) xs)
    ∙ ap (λ (m : ℕ). lines_told (put (before ++ x ∷ xs)) (numbered m rest)) e

-- THE FIRST FIVE LINES

abbrev pub base_of : Image → Image
base_of image = image_with image.regions (record { first = image.vmpl; second = image.second }) image.features image.ghcb.0

word_field : (word : List ℕ) (n : ℕ) → IsField word → n < 2 ^ 64 → fields (fields_text (word ∷ number n ∷ [])) ≡ word ∷ number n ∷ []
word_field word n f small = fields_again word (number n ∷ []) f (number_field n small, tt)

regions_field : IsField (codes "regions")
regions_field = (refl, (refl, (refl, (refl, (refl, (refl, (refl, tt)))))))

vmpl_field : IsField (codes "vmpl")
vmpl_field = (refl, (refl, (refl, (refl, tt))))

features_field : IsField (codes "features")
features_field = (refl, (refl, (refl, (refl, (refl, (refl, (refl, (refl, tt))))))))

ghcb_field : IsField (codes "ghcb")
ghcb_field = (refl, (refl, (refl, (refl, tt))))

-- the numbers of the first lines are in their limits
abbrev pub HeadFits : ℕ → ℕ → ℕ → Type 0
HeadFits regions features ghcb =
    ((nat_le 1 regions && nat_le regions 512) ≡ true) × ((nat_le 0 features && nat_le features 0xffffffffffffffff) ≡ true) × ((nat_le 0 ghcb && nat_le ghcb (512 * regions - 1)) ≡ true)

head_by : (l1 l2 l3 l4 l5 : List ℕ) (rest : List Line) (format : Format) (levels : Levels) (regions features ghcb : ℕ)
    → title (fields l1) ≡ Ok format → head_line (codes "regions") 1 512 (fields l2) ≡ Ok regions → levels_line format (fields l3) ≡ Ok levels
    → head_line (codes "features") 0 0xffffffffffffffff (fields l4) ≡ Ok features → head_line (codes "ghcb") 0 (512 * regions - 1) (fields l5) ≡ Ok ghcb
    → head_told ((1, l1) ∷ (2, l2) ∷ (3, l3) ∷ (4, l4) ∷ (5, l5) ∷ rest) ≡ Ok (image_with regions levels features ghcb, rest)
head_by l1 l2 l3 l4 l5 rest format levels regions features ghcb e1 e2 e3 e4 e5 = rw (e1, e2, e3, e4, e5) refl

regions_again : (n most : ℕ) → n < 2 ^ 64 → (nat_le 1 n && nat_le n most) ≡ true → head_line (codes "regions") 1 most (fields (fields_text (codes "regions" ∷ number n ∷ []))) ≡ Ok n
regions_again n most small within =
    let again = read_again n small in
    ap (head_line (codes "regions") 1 most) (word_field (codes "regions") n regions_field small) ∙ rw (again, within) refl

features_again : (n most : ℕ) → n < 2 ^ 64 → (nat_le 0 n && nat_le n most) ≡ true → head_line (codes "features") 0 most (fields (fields_text (codes "features" ∷ number n ∷ []))) ≡ Ok n
features_again n most small within =
    let again = read_again n small in
    ap (head_line (codes "features") 0 most) (word_field (codes "features") n features_field small) ∙ rw (again, within) refl

ghcb_again : (n most : ℕ) → n < 2 ^ 64 → (nat_le 0 n && nat_le n most) ≡ true → head_line (codes "ghcb") 0 most (fields (fields_text (codes "ghcb" ∷ number n ∷ []))) ≡ Ok n
ghcb_again n most small within =
    let again = read_again n small in
    ap (head_line (codes "ghcb") 0 most) (word_field (codes "ghcb") n ghcb_field small) ∙ rw (again, within) refl

one_again : (vmpl : Vmpl) → vmpl.0 < 2 ^ 64 → is_vmpl vmpl.0 ≡ true → levels_line formats.One (fields (fields_text (vmpl_fields vmpl None))) ≡ Ok (record { first = vmpl; second = None })
one_again vmpl small level =
    let again = read_again vmpl.0 small in
    ap (levels_line formats.One) (word_field (codes "vmpl") vmpl.0 vmpl_field small) ∙ rw (again, level) refl

two_again : (vmpl second : Vmpl) → vmpl.0 < 2 ^ 64 → second.0 < 2 ^ 64 → (is_vmpl vmpl.0 && (is_vmpl second.0 && not (second.0 == vmpl.0))) ≡ true
    → levels_line formats.Two (fields (fields_text (vmpl_fields vmpl (Some second)))) ≡ Ok (record { first = vmpl; second = Some second })
two_again vmpl second small other level =
    let again = read_again vmpl.0 small in
    let both = read_again second.0 other in
    ap (levels_line formats.Two) (fields_again (codes "vmpl") (number vmpl.0 ∷ number second.0 ∷ []) vmpl_field (number_field vmpl.0 small, (number_field second.0 other, tt))) ∙ rw (again, both, level) refl

-- whether the VMPLs of the guest are in their limits
abbrev pub are_levels : Vmpl → Option Vmpl → Bool
are_levels first None = is_vmpl first.0
are_levels first (Some second) = is_vmpl first.0 && (is_vmpl second.0 && not (second.0 == first.0))

abbrev pub AreSmall : Vmpl → Option Vmpl → Type 0
AreSmall first None = first.0 < 2 ^ 64
AreSmall first (Some second) = (first.0 < 2 ^ 64) × (second.0 < 2 ^ 64)

pub head_again : (regions features ghcb : ℕ) (vmpl : Vmpl) (second : Option Vmpl) (rest : List Fields) → regions < 2 ^ 64 → features < 2 ^ 64 → ghcb < 2 ^ 64 → AreSmall vmpl second
    → HeadFits regions features ghcb → are_levels vmpl second ≡ true
    → head_told (numbered 1 (title_fields second ∷ (codes "regions" ∷ number regions ∷ []) ∷ vmpl_fields vmpl second ∷ (codes "features" ∷ number features ∷ []) ∷ (codes "ghcb" ∷ number ghcb ∷ []) ∷ rest))
    ≡ Ok (image_with regions (record { first = vmpl; second = second }) features ghcb, numbered 6 rest)
head_again regions features ghcb vmpl None rest r f g v fits level =
    head_by (fields_text (title_fields None)) (fields_text (codes "regions" ∷ number regions ∷ [])) (fields_text (vmpl_fields vmpl None)) (fields_text (codes "features" ∷ number features ∷ [])) (fields_text (codes "ghcb" ∷ number ghcb ∷ [])) (numbered 6 rest) formats.One (record { first = vmpl; second = None }) regions features ghcb
    refl (regions_again regions 512 r fits.0) (one_again vmpl v level) (features_again features 0xffffffffffffffff f fits.1) (ghcb_again ghcb (512 * regions - 1) g fits.2)
head_again regions features ghcb vmpl (Some second) rest r f g v fits level =
    head_by (fields_text (title_fields (Some second))) (fields_text (codes "regions" ∷ number regions ∷ [])) (fields_text (vmpl_fields vmpl (Some second))) (fields_text (codes "features" ∷ number features ∷ [])) (fields_text (codes "ghcb" ∷ number ghcb ∷ [])) (numbered 6 rest) formats.Two (record { first = vmpl; second = Some second }) regions features ghcb
    refl (regions_again regions 512 r fits.0) (two_again vmpl second v.0 v.1 level) (features_again features 0xffffffffffffffff f fits.1) (ghcb_again ghcb (512 * regions - 1) g fits.2)

-- THE OTHER LINES

abbrev pub put_ranges : Image → List Range → Image
put_ranges image l = record image { ranges = l }

abbrev pub put_large : Image → List ℕ → Image
put_large image l = record image { large = l }

abbrev pub put_cores : Image → List CoreLine → Image
put_cores image l = record image { cores = l }

abbrev pub put_blocks : Image → List (Page × Size) → Image
put_blocks image l = record image { blocks = l }

abbrev pub put_fills : Image → List Fill → Image
put_fills image l = record image { fills = l }

-- the image after each kind of lines
abbrev pub after_ranges : Image → Image
after_ranges image = put_ranges (base_of image) image.ranges

abbrev pub after_large : Image → Image
after_large image = put_large (after_ranges image) image.large

abbrev pub after_cores : Image → Image
after_cores image = put_cores (after_large image) image.cores

abbrev pub after_blocks : Image → Image
after_blocks image = put_blocks (after_cores image) image.blocks

abbrev pub after_split : Image → Image
after_split image = record (after_blocks image) { split = image.split }

abbrev pub after_announce : Image → Image
after_announce image = record (after_split image) { announce = image.announce }

abbrev pub after_fills : Image → Image
after_fills image = put_fills (after_announce image) image.fills

-- each line stands behind those before
pub record LinesFit (image : Image) : Type 0 where
  pub ranges : FitsBy range_fields (λ range. items.Range range) (put_ranges (base_of image)) [] image.ranges
  pub large : FitsBy large_fields (λ region. items.Large region) (put_large (after_ranges image)) [] image.large
  pub cores : FitsBy (core_fields image.second) (λ core. items.Core core) (put_cores (after_large image)) [] image.cores
  pub blocks : FitsBy block_fields (λ block. items.Block block) (put_blocks (after_cores image)) [] image.blocks
  pub fills : FitsBy fill_fields (λ fill. items.Bytes fill) (put_fills (after_announce image)) [] image.fills

only_split : (t : Bool) (image : Image) (n : ℕ) (rest : List Fields) → image.split ≡ false
    → (m : ℕ) × (lines_told image (numbered n (only_if t (codes "pool" ∷ codes "split" ∷ []) ++ rest)) ≡ lines_told (record image { split = t }) (numbered m rest))
only_split true image n rest e = (n + 1, line_step image n (codes "pool" ∷ codes "split" ∷ []) items.Split (numbered (n + 1) rest) (refl, refl, refl, refl))
only_split false image n rest e = (n, ap (λ (t : Bool). lines_told (record image { split = t }) (numbered n rest)) e)

only_announce : (t : Bool) (image : Image) (n : ℕ) (rest : List Fields) → image.announce ≡ false
    → (m : ℕ) × (lines_told image (numbered n (only_if t (codes "announce" ∷ []) ++ rest)) ≡ lines_told (record image { announce = t }) (numbered m rest))
only_announce true image n rest e = (n + 1, line_step image n (codes "announce" ∷ []) items.Announce (numbered (n + 1) rest) (refl, refl, refl, refl))
only_announce false image n rest e = (n, ap (λ (t : Bool). lines_told (record image { announce = t }) (numbered n rest)) e)

pub items_again : (image : Image) (n : ℕ) → LinesFit image → lines_told (base_of image) (numbered n (item_lines image)) ≡ Ok (after_fills image)
items_again image n fit =
    let fills = map fill_fields image.fills in
    let told = only_if image.announce (codes "announce" ∷ []) ++ fills in
    let split = only_if image.split (codes "pool" ∷ codes "split" ∷ []) ++ told in
    let blocks = map block_fields image.blocks ++ split in
    let cores = map (core_fields image.second) image.cores ++ blocks in
    let large = map large_fields image.large ++ cores in
    let n1 = n + length image.ranges in
    let n2 = n1 + length image.large in
    let n3 = n2 + length image.cores in
    let n4 = n3 + length image.blocks in
    let s = only_split image.split (after_blocks image) n4 told refl in
    let a = only_announce image.announce (after_split image) s.0 fills refl in
    section range_fields (λ range. items.Range range) (put_ranges (base_of image)) (λ before x. refl) image.ranges [] n large fit.ranges
    ∙ section large_fields (λ region. items.Large region) (put_large (after_ranges image)) (λ before x. refl) image.large [] n1 cores fit.large
    ∙ section (core_fields image.second) (λ core. items.Core core) (put_cores (after_large image)) (λ before x. refl) image.cores [] n2 blocks fit.cores
    ∙ section block_fields (λ block. items.Block block) (put_blocks (after_cores image)) (λ before x. refl) image.blocks [] n3 split fit.blocks
    ∙ s.1
    ∙ a.1
    ∙ ap (λ (l : List Fields). lines_told (after_announce image) (numbered a.0 l)) (sym (append-nil fills))
    ∙ section fill_fields (λ fill. items.Bytes fill) (put_fills (after_announce image)) (λ before x. refl) image.fills [] a.0 [] fit.fills

-- without accepts, faults and host lines that is the image
pub whole : (image : Image) → image.accepts ≡ [] → image.faults ≡ [] → image.host ≡ [] → after_fills image ≡ image
whole image a f h =
    ap (λ (l : List Span). record (after_fills image) { accepts = l }) (sym a)
    ∙ ap (λ (l : List FaultAt). record (after_fills image) { accepts = image.accepts; faults = l }) (sym f)
    ∙ ap (λ (l : List HostLine). record (after_fills image) { accepts = image.accepts; faults = image.faults; host = l }) (sym h)

-- THE WHOLE TEXT

begin_map : {A : Type 0} (line : A → Fields) → ((x : A) → Begins (line x)) → (xs : List A) → AllBegin (map line xs)
begin_map line b [] = tt
begin_map line b (x ∷ xs) = (b x, begin_map line b xs)

begin_only : (t : Bool) (line : Fields) → Begins line → AllBegin (only_if t line)
begin_only true line b = (b, tt)
begin_only false line b = tt

begin_title : (second : Option Vmpl) → Begins (title_fields second)
begin_title None = refl
begin_title (Some second) = refl

begin_vmpl : (first : Vmpl) (second : Option Vmpl) → Begins (vmpl_fields first second)
begin_vmpl first None = refl
begin_vmpl first (Some second) = refl

all_begin : (image : Image) → AllBegin (head_lines image ++ item_lines image)
all_begin image = (
  begin_title image.second,
  (
    refl,
    (
      begin_vmpl image.vmpl image.second,
      (
        refl,
        (
          refl,
          begin_append (map range_fields image.ranges) _ (begin_map range_fields (λ x. refl) image.ranges)
              (begin_append (map large_fields image.large) _ (begin_map large_fields (λ x. refl) image.large)
              (begin_append (map (core_fields image.second) image.cores) _ (begin_map (core_fields image.second) (λ x. refl) image.cores)
              (begin_append (map block_fields image.blocks) _ (begin_map block_fields (λ x. refl) image.blocks)
              (begin_append (only_if image.split (codes "pool" ∷ codes "split" ∷ [])) _ (begin_only image.split (codes "pool" ∷ codes "split" ∷ []) refl)
              (begin_append (only_if image.announce (codes "announce" ∷ [])) _ (begin_only image.announce (codes "announce" ∷ []) refl)
              (begin_map fill_fields (λ x. refl) image.fills)))))),
        ),
      ),
    ),
  ),
)

-- the numbers of the first lines have at most 16 digits
pub record HeadSmall (image : Image) : Type 0 where
  pub regions : image.regions < 2 ^ 64
  pub features : image.features < 2 ^ 64
  pub ghcb : image.ghcb.0 < 2 ^ 64
  pub levels : AreSmall image.vmpl image.second

lines_by : (all : List Line) (base image : Image) (rest : List Line) → head_told all ≡ Ok (base, rest) → lines_told base rest ≡ Ok image → end_told image ≡ Ok image → image_lines all ≡ Ok image
lines_by all base image rest h l e = rw (h, l, e) refl

-- an image that was written is read again, where its lines fit behind one another and its end holds
pub reads_by : (image : Image) → AreLines (head_lines image ++ item_lines image) → HeadSmall image → HeadFits image.regions image.features image.ghcb.0 → are_levels image.vmpl image.second ≡ true
    → LinesFit image → image.accepts ≡ [] → image.faults ≡ [] → image.host ≡ [] → end_told image ≡ Ok image → image_of (image_text image) ≡ Ok image
reads_by image lines small fits levels fit a f h end =
    ap image_lines (text_again (head_lines image ++ item_lines image) lines (all_begin image))
    ∙ lines_by (numbered 1 (head_lines image ++ item_lines image)) (base_of image) image (numbered 6 (item_lines image))
    (head_again image.regions image.features image.ghcb.0 image.vmpl image.second (item_lines image) small.regions small.features small.ghcb small.levels fits levels)
    (items_again image 6 fit ∙ ap (λ (i : Image). let r : Result Image (ℕ × ImageKind) = Ok i in r) (whole image a f h))
    end
