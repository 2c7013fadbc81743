-- What the host is told behind a wave.
use Rattle.std.proofs.Common.{◌≡◌, ℕ, zero, suc, ◌+◌, ◌<◌, ◌≤◌, Bool, true, false, cond, Option, None, Some, Result, Ok, Err, List, [], ◌∷◌, ◌++◌, length, take, map, refl, sym, ap, subst, ◌∙◌, arith, append-nil}
use Rattle.std.specs.Prelude.{◌==◌, ◌||◌, ◌&&◌, ◌^◌, not, IsTrue, All, filter, is_some, OnOk, IfOk, slice_index_or}
use Rattle.std.specs.List.{list_any, list_all}
use Rattle.std.specs.Option.{option_map, option_map_or}
use Rattle.std.proofs.Math.Seq.{take-append-add}
use Rattle.std.proofs.lemmas.Bool.{eqb-true}
use Rattle.std.proofs.lemmas.List.{map-append, take-map, length-map}
use Rattle.std.proofs.lemmas.List.Elements.{All-append, All-map, All-filter, All-take}
use Rattle.std.proofs.lemmas.List.Sums.{AllPass-from_list_all}
use Rattle.svsm_types.specs.declared.image.Image.{Image}
use Rattle.svsm_types.specs.declared.image.CoreLine.{CoreLine}
use Rattle.svsm_types.specs.declared.image.HostLine.{HostLine}
use Rattle.svsm_types.specs.declared.image.HostLine.TheVariants as Line
use Rattle.svsm_types.specs.declared.platform.Vmpl.{Vmpl}
use Rattle.svsm_types.specs.declared.vcpu.Row.{Row}
use Rattle.svsm_steps.specs.declared.entry.Entry.{Entry}
use Rattle.svsm_steps.specs.Announced.{LivePair, Announced, live_pairs, is_live, exits_between, ap_error, refused_at, refused_more}
use Rattle.svsm_steps.specs.Formed.{IsVmpl, AreWellFormed}
use Rattle.svsm_steps.specs.Mapped.{AreRows}
use Rattle.svsm_steps.specs.Sound.{IsSound, IsSecond, is_level}
use Rattle.svsm_steps.specs.Image.{constants_of, booted}
use Rattle.svsm_calls.specs.Waves.{rows_behind}
use Rattle.svsm_laws.specs.OfLines.{is_of_line}
use Rattle.svsm_laws.proofs.OfLines.{rows_stay_of_lines, booted_rows_are_of_lines}
use Rattle.svsm_laws.proofs.Mapped.{stays_mapped}
use Rattle.svsm_laws.proofs.BootedMapped.{booted_is_mapped}
use Rattle.svsm_laws.proofs.SoundImage.{sound_seats}
use Rattle.ap_start.specs.declared.exits.ApExit.{ApExit}
use Rattle.ap_start.specs.Exits.{is_of, level_of_apic, exit_of, HasLine, IsLow, before_refused, taken, refused_exit}
use Rattle.ap_start.specs.Wave.{is_standing, pair_of, only_live}
use Rattle.run_order.specs.Told.{AreRegistered, told_between, IsTold, error_in, refused_of, said_from}

both : (a b : Bool) → (a && b) ≡ true → (a ≡ true) × (b ≡ true)
both true b all = (refl, all)
both false b all = cc

same_level : (vmpl other : Vmpl) → (vmpl.0 == other.0) ≡ true → IsVmpl other → IsVmpl vmpl
same_level vmpl other is lawful = subst (λ (n : ℕ). IsVmpl (record { 0 = n })) (sym (eqb-true vmpl.0 other.0 is)) lawful

one_level : (vmpl first : Vmpl) (second : Option Vmpl) (b : Bool) → (vmpl.0 == first.0) ≡ b → IsVmpl first → IsSecond first second
    → (b || option_map_or (λ (second : Vmpl). vmpl.0 == second.0) second false) ≡ true → IsVmpl vmpl
one_level vmpl first second true is lawful also level = same_level vmpl first is lawful
one_level vmpl first (Some second) false is lawful also level = same_level vmpl second level also.0
one_level vmpl first None false is lawful also level = cc

-- ROWS

low_pages : (regions : ℕ) (rows : List Row) → regions ≤ 512 → AreRows regions rows → All (λ (row : Row). row.page.0 < 2 ^ 52) rows
low_pages regions [] few h k d low = absurd (omega arith)
low_pages regions (row ∷ rows) few h zero d low = let within = h.0.0 in omega (arith, within, few)
low_pages regions (row ∷ rows) few h (suc k) d low = low_pages regions rows few h.1 k d (omega arith)

-- the rows of a run
pub registered : (image : Image) (trace : List Entry) (rows : List Row) → IsSound image → AreWellFormed image.regions trace → rows ≡ rows_behind image trace
    → AreRegistered image rows
registered image trace rows sound formed is = subst (AreRegistered image) (sym is) (record {
  lines = AllPass-from_list_all (is_of_line image.cores) (rows_behind image trace)
      (rows_stay_of_lines (constants_of image) (booted image) trace (booted_rows_are_of_lines image));
  pages = low_pages image.regions (rows_behind image trace) sound.regions_most
      (stays_mapped (constants_of image) (booted image) trace (booted_is_mapped image (sound_seats image sound) sound.blocks) formed).1;
})

-- THEIR EXITS

level_if : (b : Bool) (vmpl later : _) → (b ≡ true → IsVmpl vmpl) → (b ≡ false → IsVmpl later) → IsVmpl (cond b vmpl later)
level_if true vmpl later one other = one refl
level_if false vmpl later one other = other refl

later_line : (a b : Bool) → a ≡ false → (a || b) ≡ true → b ≡ true
later_line true b e h = cc
later_line false b e h = h

lawful_line : (image : Image) → IsSound image → (cores : List CoreLine) → list_all (λ (core : CoreLine). is_level image core.vmpl) cores ≡ true
    → (apic : ℕ) → list_any (is_of apic) cores ≡ true → IsVmpl (level_of_apic cores apic)
lawful_line image sound [] all apic some = cc
lawful_line image sound (core ∷ cores) all apic some =
    let parts = both (is_level image core.vmpl) (list_all (λ (core : CoreLine). is_level image core.vmpl) cores) all in
    level_if (is_of apic core) core.vmpl (level_of_apic cores apic)
    (λ yes. one_level core.vmpl image.vmpl image.second (core.vmpl.0 == image.vmpl.0) refl sound.vmpl sound.second parts.0)
    (λ no. lawful_line image sound cores parts.1 apic (later_line (is_of apic core) (list_any (is_of apic) cores) no some))

low_row : (image : Image) → IsSound image → (create : Bool) (row : Row) → HasLine image.cores row → row.page.0 < 2 ^ 52
    → IsLow (exit_of image.cores (record { create = create; pair = pair_of row }))
low_row image sound create row line page =
    let level = lawful_line image sound image.cores sound.levels row.apic line in
    record { page = page; least = level.0; most = level.1 }

low_half : (image : Image) → IsSound image → (create : Bool) (rows others : List Row) → AreRegistered image rows
    → All IsLow (map (exit_of image.cores) (only_live create rows others))
low_half image sound create rows others are =
    let announced : LivePair → Announced = λ pair. record { create = create; pair = pair } in
    let stays : LivePair → Bool = λ pair. not (is_live (live_pairs others) pair) in
    All-map IsLow (exit_of image.cores) (only_live create rows others)
    (All-map (λ exit. IsLow (exit_of image.cores exit)) announced (filter stays (live_pairs rows))
    (All-filter stays (λ pair. IsLow (exit_of image.cores (announced pair))) (live_pairs rows)
    (All-map (λ pair. IsLow (exit_of image.cores (announced pair))) pair_of (filter is_standing rows)
    (All-filter is_standing (λ row. IsLow (exit_of image.cores (announced (pair_of row)))) rows
    (λ k d low. low_row image sound create (slice_index_or rows k d) (are.lines k d low) (are.pages k d low))))))

pub low_exits : (image : Image) (before after : List Row) → IsSound image → AreRegistered image before → AreRegistered image after
    → All IsLow (map (exit_of image.cores) (exits_between before after))
low_exits image before after sound first last =
    subst (All IsLow) (sym (map-append (exit_of image.cores) (only_live false before after) (only_live true after before)))
    (All-append IsLow (map (exit_of image.cores) (only_live false before after)) (map (exit_of image.cores) (only_live true after before))
    (low_half image sound false before after first) (low_half image sound true after before last))

-- THE REFUSED ONE

-- what is said of it, by how many were taken before
abbrev pub said_of : Image → Option ℕ → Option (ℕ × ℕ)
said_of image refused = option_map (λ (refused : ℕ). (0, ap_error image.host refused)) refused

-- behind so many that were taken
abbrev pub refused_behind : ℕ → Option ℕ → Option ℕ
refused_behind count None = None
refused_behind count (Some refused) = Some (count + refused)

behind_none : (refused : Option ℕ) → refused ≡ refused_behind 0 refused
behind_none None = refl
behind_none (Some refused) = let e : refused ≡ 0 + refused = omega arith in ap (λ (n : ℕ). Some n) e

behind_more : (count : ℕ) (refused : Option ℕ) → refused_more (refused_behind count refused) ≡ refused_behind (suc count) refused
behind_more count None = refl
behind_more count (Some refused) = let e : count + refused + 1 ≡ suc count + refused = omega arith in ap (λ (n : ℕ). Some n) e

not_more : (refused : Option ℕ) → refused_more refused ≡ None → refused ≡ None
not_more None h = refl
not_more (Some refused) h = cc

append_by : (b : Bool) (count : ℕ) (first whole last : Option ℕ) → (first ≡ None → whole ≡ refused_behind count last)
    → cond b (refused_more first) (Some 0) ≡ None → cond b (refused_more whole) (Some 0) ≡ refused_behind (suc count) last
append_by true count first whole last later h = ap refused_more (later (not_more first h)) ∙ behind_more count last
append_by false count first whole last later h = cc

-- where the host took the first ones
refused_append : (lines : List HostLine) (number : ℕ) (first second : List Announced) → refused_at lines number first ≡ None
    → refused_at lines number (first ++ second) ≡ refused_behind (length first) (refused_at lines (number + length first) second)
refused_append lines number [] second h =
    let e : number ≡ number + 0 = omega arith in
    ap (λ (n : ℕ). refused_at lines n second) e ∙ behind_none (refused_at lines (number + 0) second)
refused_append lines number (exit ∷ first) second h =
    let e : number + 1 + length first ≡ number + length (exit ∷ first) = omega arith in
    append_by (ap_error lines number == 0) (length first) (refused_at lines (number + 1) first) (refused_at lines (number + 1) (first ++ second))
    (refused_at lines (number + length (exit ∷ first)) second)
    (λ none. refused_append lines (number + 1) first second none
    ∙ ap (λ (n : ℕ). refused_behind (length first) (refused_at lines n second)) e) h

-- so many exits are refused as the exits themselves
pub refused_count : (lines : List HostLine) (number : ℕ) (told : List Announced) → refused_of lines number (length told) ≡ refused_at lines number told
refused_count lines number [] = refl
refused_count lines number (exit ∷ told) =
    ap (λ (later : Option ℕ). cond (ap_error lines number == 0) (refused_more later) (Some 0)) (refused_count lines (number + 1) told)

none_first : (b : Bool) (later : Option ℕ) → cond b (refused_more later) (Some 0) ≡ None → (b ≡ true) × (later ≡ None)
none_first true later h = (refl, not_more later h)
none_first false later h = cc

-- one more exit is taken
pub one_taken : (lines : List HostLine) (number count : ℕ) → refused_of lines number count ≡ None → (ap_error lines (number + count) == 0) ≡ true
    → refused_of lines number (suc count) ≡ None
one_taken lines number zero h is =
    let same : number + 0 ≡ number = omega arith in
    ap (λ (b : Bool). cond b (refused_more None) (Some 0)) (subst (λ (n : ℕ). (ap_error lines n == 0) ≡ true) same is)
one_taken lines number (suc count) h is =
    let parts = none_first (ap_error lines number == 0) (refused_of lines (number + 1) count) h in
    let same : number + suc count ≡ number + 1 + count = omega arith in
    let rest : refused_of lines (number + 1) (suc count) ≡ None =
    one_taken lines (number + 1) count parts.1 (subst (λ (n : ℕ). (ap_error lines n == 0) ≡ true) same is) in
    ap (λ (later : Option ℕ). cond (ap_error lines number == 0) (refused_more later) (Some 0)) rest
    ∙ ap (λ (b : Bool). cond b (refused_more None) (Some 0)) parts.0

-- the first that is not
pub one_refused : (lines : List HostLine) (number at count : ℕ) → refused_of lines number at ≡ None → (ap_error lines (number + at) == 0) ≡ false
    → at < count → refused_of lines number count ≡ Some at
one_refused lines number at zero h is less = absurd (omega (arith, less))
one_refused lines number zero (suc count) h is less =
    let same : number + 0 ≡ number = omega arith in
    ap (λ (b : Bool). cond b (refused_more (refused_of lines (number + 1) count)) (Some 0)) (subst (λ (n : ℕ). (ap_error lines n == 0) ≡ false) same is)
one_refused lines number (suc at) (suc count) h is less =
    let parts = none_first (ap_error lines number == 0) (refused_of lines (number + 1) at) h in
    let same : number + suc at ≡ number + 1 + at = omega arith in
    let rest : refused_of lines (number + 1) count ≡ Some at =
    one_refused lines (number + 1) at count parts.1 (subst (λ (n : ℕ). (ap_error lines n == 0) ≡ false) same is) (omega (arith, less)) in
    let next : at + 1 ≡ suc at = omega arith in
    ap (λ (later : Option ℕ). cond (ap_error lines number == 0) (refused_more later) (Some 0)) rest
    ∙ ap (λ (b : Bool). cond b (refused_more (Some at)) (Some 0)) parts.0 ∙ ap (λ (n : ℕ). Some n) next

at_most_by : (b : Bool) (count at : ℕ) (later : Option ℕ) → ((k : ℕ) → later ≡ Some k → k < count) → cond b (refused_more later) (Some 0) ≡ Some at → at < suc count
at_most_by true count at (Some k) low h =
    let less : k < count = low k refl in
    let is : k + 1 ≡ at = cc in
    omega arith
at_most_by true count at None low h = cc
at_most_by false count at later low h = let is : 0 ≡ at = cc in omega arith

-- it is one of them
pub at_most : (lines : List HostLine) (number count at : ℕ) → refused_of lines number count ≡ Some at → at < count
at_most lines number zero at h = cc
at_most lines number (suc count) at h =
    at_most_by (ap_error lines number == 0) count at (refused_of lines (number + 1) count) (λ k e. at_most lines (number + 1) count k e) h

-- ONE WAVE MORE

none_said : (image : Image) (refused : Option ℕ) → None ≡ said_of image refused → refused ≡ None
none_said image None h = refl
none_said image (Some refused) h = cc

-- so far the host took all
all_taken : (image : Image) (told : List Announced) (exits : List ApExit) → IsTold image told exits None → exits ≡ map (exit_of image.cores) told
all_taken image told exits is =
    is.took ∙ ap (λ (refused : Option ℕ). map (exit_of image.cores) (before_refused refused told)) (none_said image (refused_at image.host 0 told) is.said)

-- the exits behind the wave, of which so many are taken
behind_by : (image : Image) (told more : List Announced) (exits : List ApExit) (refused : Option ℕ) → exits ≡ map (exit_of image.cores) told
    → exits ++ before_refused refused (map (exit_of image.cores) more)
    ≡ map (exit_of image.cores) (before_refused (refused_behind (length told) refused) (told ++ more))
behind_by image told more exits None are = ap (λ (l : List ApExit). l ++ map (exit_of image.cores) more) are ∙ sym (map-append (exit_of image.cores) told more)
behind_by image told more exits (Some refused) are =
    ap (λ (l : List ApExit). l ++ take refused (map (exit_of image.cores) more)) are
    ∙ (ap (λ (l : List ApExit). map (exit_of image.cores) told ++ l) (take-map (exit_of image.cores) refused more)
    ∙ (sym (map-append (exit_of image.cores) told (take refused more))
    ∙ ap (map (exit_of image.cores)) (sym (take-append-add told more refused))))

said_by : (image : Image) (number : ℕ) (refused : Option ℕ) → said_from image.host number refused ≡ said_of image (refused_behind number refused)
said_by image number None = refl
said_by image number (Some refused) = refl

-- behind the exits of a wave
pub told_more : (image : Image) (told more : List Announced) (exits news new : List ApExit) (number : ℕ) (refused : Option ℕ) (said : Option (ℕ × ℕ))
    → IsTold image told exits None → number ≡ length exits → news ≡ map (exit_of image.cores) more
    → refused ≡ refused_of image.host number (length news)
    → new ≡ exits ++ before_refused refused news → said ≡ said_from image.host number refused → IsTold image (told ++ more) new said
told_more image told more exits news new number refused said is count are ended took says =
    let none : refused_at image.host 0 told ≡ None = none_said image (refused_at image.host 0 told) is.said in
    let all : exits ≡ map (exit_of image.cores) told = all_taken image told exits is in
    let counted : number ≡ length told = count ∙ (ap length all ∙ length-map told (exit_of image.cores)) in
    let from : 0 + length told ≡ length told = omega arith in
    let many : length news ≡ length more = ap length are ∙ length-map more (exit_of image.cores) in
    let here : refused ≡ refused_at image.host (length told) more =
    ended ∙ ap (λ (n : ℕ). refused_of image.host number n) many ∙ refused_count image.host number more ∙ ap (λ (n : ℕ). refused_at image.host n more) counted in
    let behind : refused_at image.host 0 (told ++ more) ≡ refused_behind (length told) refused =
    refused_append image.host 0 told more none ∙ ap (λ (n : ℕ). refused_behind (length told) (refused_at image.host n more)) from
    ∙ ap (refused_behind (length told)) (sym here) in
    record {
      took = took ∙ (ap (λ (l : List ApExit). exits ++ before_refused refused l) are
          ∙ (behind_by image told more exits refused all ∙ ap (λ (r : Option ℕ). map (exit_of image.cores) (before_refused r (told ++ more))) (sym behind)));
      said = says ∙ (ap (λ (n : ℕ). said_from image.host n refused) counted ∙ (said_by image (length told) refused ∙ ap (said_of image) (sym behind)));
    }

-- behind a wave of which the host is told nothing
pub told_nothing : (image : Image) (told : List Announced) (exits : List ApExit) (before after : List Row) → image.announce ≡ false → IsTold image told exits None
    → IsTold image (told ++ told_between image before after) exits None
told_nothing image told exits before after quiet is =
    subst (λ (more : List Announced). IsTold image (told ++ more) exits None) (sym (nothing image.announce (exits_between before after) quiet))
    (subst (λ (all : List Announced). IsTold image all exits None) (sym (append-nil told)) is)
  where
    nothing : (b : Bool) (exits : List Announced) → b ≡ false → cond b exits [] ≡ []
    nothing true exits h = cc
    nothing false exits h = refl

pub told_all : (image : Image) (before after : List Row) → image.announce ≡ true → told_between image before after ≡ exits_between before after
told_all image before after loud = every image.announce (exits_between before after) loud
  where
    every : (b : Bool) (exits : List Announced) → b ≡ true → cond b exits [] ≡ exits
    every true exits h = refl
    every false exits h = cc

-- what it said tells whether it refused one
pub refused_so : (image : Image) (told : List Announced) (exits : List ApExit) (said : Option (ℕ × ℕ)) → IsTold image told exits said
    → is_some (refused_at image.host 0 told) ≡ is_some said
refused_so image told exits said is = sym (ap is_some is.said ∙ by (refused_at image.host 0 told))
  where
    by : (refused : Option ℕ) → is_some (said_of image refused) ≡ is_some refused
    by None = refl
    by (Some refused) = refl

-- before the first wave
pub told_none : (image : Image) → IsTold image [] [] None
told_none image = record { took = refl; said = refl }

pub none_low : All IsLow []
none_low k d low = absurd (omega arith)

-- of a result
pub on_two : {T E : Type 0} (r : Result T E) (X Y Z : Type 0) → OnOk r X → OnOk r Y → (X → Y → Z) → OnOk r Z
on_two (Ok t) X Y Z x y f = f x y
on_two (Err e) X Y Z x y f = tt

-- those that were taken
pub low_taken : (old news new : List ApExit) (refused : Option ℕ) → All IsLow old → All IsLow news → new ≡ old ++ before_refused refused news → All IsLow new
low_taken old news new refused first more is = subst (All IsLow) (sym is) (All-append IsLow old (before_refused refused news) first (by refused))
  where
    by : (refused : Option ℕ) → All IsLow (before_refused refused news)
    by None = more
    by (Some at) = All-take IsLow at news more

-- A LINE

found_by : (b : Bool) (said error later : ℕ) → cond b (Some said) None ≡ Some error → cond b said later ≡ error
found_by true said error later h = cc
found_by false said error later h = cc

pub found : (number error : ℕ) (line : HostLine) (lines : List HostLine) → error_in number line ≡ Some error → ap_error (line ∷ lines) number ≡ error
found number error (Line.Ap other said) lines h = found_by (other == number) said error (ap_error lines number) h
found number error _ lines h = cc

passed_by : (b : Bool) (said later : ℕ) → cond b (Some said) None ≡ None → cond b said later ≡ later
passed_by true said later h = cc
passed_by false said later h = refl

pub passed : (number : ℕ) (line : HostLine) (lines : List HostLine) → error_in number line ≡ None → ap_error (line ∷ lines) number ≡ ap_error lines number
passed number (Line.Ap other said) lines h = passed_by (other == number) said (ap_error lines number) h
passed number _ lines h = refl
