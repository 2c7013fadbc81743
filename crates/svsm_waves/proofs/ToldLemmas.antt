-- What the host is told behind a wave.
use Rattle.std.proofs.Common.{◌≡◌, ℕ, zero, suc, ◌+◌, ◌<◌, ◌≤◌, Bool, true, false, cond, Option, None, Some, Result, Ok, Err, List, [], ◌∷◌, ◌++◌, length, take, map, refl, sym, ap, subst, ◌∙◌, arith, append-nil}
use Rattle.std.specs.Prelude.{◌==◌, ◌||◌, ◌^◌, not, IsTrue, All, filter, is_some, OnOk, IfOk, slice_index_or}
use Rattle.std.specs.List.{list_any, list_all}
use Rattle.std.specs.Option.{option_map}
use Rattle.std.proofs.Math.Seq.{take-append-add}
use Rattle.std.proofs.lemmas.List.{map-append, take-map, length-map}
use Rattle.std.proofs.lemmas.List.Elements.{All-append, All-map, All-filter, All-take}
use Rattle.std.proofs.lemmas.List.Sums.{AllPass-from_list_all}
use Rattle.svsm_types.specs.declared.image.Image.{Image}
use Rattle.svsm_types.specs.declared.image.CoreLine.{CoreLine}
use Rattle.svsm_types.specs.declared.image.HostLine.{HostLine}
use Rattle.svsm_types.specs.declared.vcpu.Row.{Row}
use Rattle.svsm_steps.specs.declared.entry.Entry.{Entry}
use Rattle.svsm_steps.specs.Announced.{LivePair, Announced, live_pairs, is_live, exits_between, ap_error, refused_at, refused_more}
use Rattle.svsm_steps.specs.Formed.{IsVmpl}
use Rattle.svsm_steps.specs.Mapped.{AreRows}
use Rattle.svsm_steps.specs.Sound.{IsSound, IsSecond, is_level}
use Rattle.svsm_steps.specs.Image.{constants_of, booted}
use Rattle.svsm_laws.specs.OfLines.{is_of_line}
use Rattle.svsm_laws.proofs.OfLines.{rows_stay_of_lines, booted_rows_are_of_lines}
use Rattle.svsm_laws.proofs.Mapped.{stays_mapped}
use Rattle.svsm_laws.proofs.BootedMapped.{booted_is_mapped}
use Rattle.svsm_laws.proofs.SoundImage.{sound_seats}
use Rattle.ap_start.specs.declared.exits.ApExit.{ApExit}
use Rattle.ap_start.specs.declared.exits.ApError.{ApError}
use Rattle.ap_start.specs.declared.exits.ApError.TheVariants.{Said}
use Rattle.ap_start.specs.Exits.{is_of, level_of_apic, exit_of, HasLine, IsLow, before_refused, taken, refused_exit}
use Rattle.ap_start.specs.Wave.{is_standing, pair_of, only_live}
use Rattle.ap_start.specs.Due.{end_by}
use Rattle.svsm_waves.specs.Trace.{IsRecorded, rows_now}
use Rattle.svsm_waves.specs.Told.{AreRegistered, told_between, IsTold, taken_by, said_by, EndsWithin}
use Rattle.svsm_waves.proofs.LevelLemmas.{both, one_level}

-- ROWS

low_pages : (regions : ℕ) (rows : List Row) → regions ≤ 512 → AreRows regions rows → All (λ (row : Row). row.page.0 < 2 ^ 52) rows
low_pages regions [] few h k d low = absurd (omega arith)
low_pages regions (row ∷ rows) few h zero d low = let within = h.0.0 in omega (arith, within, few)
low_pages regions (row ∷ rows) few h (suc k) d low = low_pages regions rows few h.1 k d (omega arith)

-- the rows of a run
pub registered : (image : Image) (trace : List Entry) (rows : List Row) → IsSound image → IsRecorded image trace → rows ≡ rows_now image trace
    → AreRegistered image rows
registered image trace rows sound recorded is = subst (AreRegistered image) (sym is) (record {
  lines = AllPass-from_list_all (is_of_line image.cores) (rows_now image trace)
      (rows_stay_of_lines (constants_of image) (booted image) trace (booted_rows_are_of_lines image));
  pages = low_pages image.regions (rows_now image trace) sound.regions_most
      (stays_mapped (constants_of image) (booted image) trace (booted_is_mapped image (sound_seats image sound) sound.blocks) recorded.formed).1;
})

-- THEIR EXITS

level_if : (b : Bool) (vmpl later : _) → (b ≡ true → IsVmpl vmpl) → (b ≡ false → IsVmpl later) → IsVmpl (cond b vmpl later)
level_if true vmpl later one other = one refl
level_if false vmpl later one other = other refl

later_line : (a b : Bool) → a ≡ false → (a || b) ≡ true → b ≡ true
later_line true b e h = cc
later_line false b e h = h

lawful_line : (image : Image) → IsSound image → (cores : List CoreLine) → list_all (λ (core : CoreLine). is_level image core.vmpl) cores ≡ true
    → (apic : ℕ) → list_any (is_of apic) cores ≡ true → IsVmpl (level_of_apic cores apic)
lawful_line image sound [] all apic some = cc
lawful_line image sound (core ∷ cores) all apic some =
    let parts = both (is_level image core.vmpl) (list_all (λ (core : CoreLine). is_level image core.vmpl) cores) all in
    level_if (is_of apic core) core.vmpl (level_of_apic cores apic)
    (λ yes. one_level core.vmpl image.vmpl image.second (core.vmpl.0 == image.vmpl.0) refl sound.vmpl sound.second parts.0)
    (λ no. lawful_line image sound cores parts.1 apic (later_line (is_of apic core) (list_any (is_of apic) cores) no some))

low_row : (image : Image) → IsSound image → (create : Bool) (row : Row) → HasLine image.cores row → row.page.0 < 2 ^ 52
    → IsLow (exit_of image.cores (record { create = create; pair = pair_of row }))
low_row image sound create row line page =
    let level = lawful_line image sound image.cores sound.levels row.apic line in
    record { page = page; least = level.0; most = level.1 }

low_half : (image : Image) → IsSound image → (create : Bool) (rows others : List Row) → AreRegistered image rows
    → All IsLow (map (exit_of image.cores) (only_live create rows others))
low_half image sound create rows others are =
    let announced : LivePair → Announced = λ pair. record { create = create; pair = pair } in
    let stays : LivePair → Bool = λ pair. not (is_live (live_pairs others) pair) in
    All-map IsLow (exit_of image.cores) (only_live create rows others)
    (All-map (λ exit. IsLow (exit_of image.cores exit)) announced (filter stays (live_pairs rows))
    (All-filter stays (λ pair. IsLow (exit_of image.cores (announced pair))) (live_pairs rows)
    (All-map (λ pair. IsLow (exit_of image.cores (announced pair))) pair_of (filter is_standing rows)
    (All-filter is_standing (λ row. IsLow (exit_of image.cores (announced (pair_of row)))) rows
    (λ k d low. low_row image sound create (slice_index_or rows k d) (are.lines k d low) (are.pages k d low))))))

pub low_exits : (image : Image) (before after : List Row) → IsSound image → AreRegistered image before → AreRegistered image after
    → All IsLow (map (exit_of image.cores) (exits_between before after))
low_exits image before after sound first last =
    subst (All IsLow) (sym (map-append (exit_of image.cores) (only_live false before after) (only_live true after before)))
    (All-append IsLow (map (exit_of image.cores) (only_live false before after)) (map (exit_of image.cores) (only_live true after before))
    (low_half image sound false before after first) (low_half image sound true after before last))

-- THE REFUSED ONE

-- what is said of it, by how many were taken before
abbrev pub said_of : Image → Option ℕ → Option (ℕ × ℕ)
said_of image refused = option_map (λ (refused : ℕ). (0, ap_error image.host refused)) refused

-- behind so many that were taken
abbrev pub refused_behind : ℕ → Option ℕ → Option ℕ
refused_behind count None = None
refused_behind count (Some refused) = Some (count + refused)

behind_none : (refused : Option ℕ) → refused ≡ refused_behind 0 refused
behind_none None = refl
behind_none (Some refused) = let e : refused ≡ 0 + refused = omega arith in ap (λ (n : ℕ). Some n) e

behind_more : (count : ℕ) (refused : Option ℕ) → refused_more (refused_behind count refused) ≡ refused_behind (suc count) refused
behind_more count None = refl
behind_more count (Some refused) = let e : count + refused + 1 ≡ suc count + refused = omega arith in ap (λ (n : ℕ). Some n) e

not_more : (refused : Option ℕ) → refused_more refused ≡ None → refused ≡ None
not_more None h = refl
not_more (Some refused) h = cc

append_by : (b : Bool) (count : ℕ) (first whole last : Option ℕ) → (first ≡ None → whole ≡ refused_behind count last)
    → cond b (refused_more first) (Some 0) ≡ None → cond b (refused_more whole) (Some 0) ≡ refused_behind (suc count) last
append_by true count first whole last later h = ap refused_more (later (not_more first h)) ∙ behind_more count last
append_by false count first whole last later h = cc

-- where the host took the first ones
refused_append : (lines : List HostLine) (number : ℕ) (first second : List Announced) → refused_at lines number first ≡ None
    → refused_at lines number (first ++ second) ≡ refused_behind (length first) (refused_at lines (number + length first) second)
refused_append lines number [] second h =
    let e : number ≡ number + 0 = omega arith in
    ap (λ (n : ℕ). refused_at lines n second) e ∙ behind_none (refused_at lines (number + 0) second)
refused_append lines number (exit ∷ first) second h =
    let e : number + 1 + length first ≡ number + length (exit ∷ first) = omega arith in
    append_by (ap_error lines number == 0) (length first) (refused_at lines (number + 1) first) (refused_at lines (number + 1) (first ++ second))
    (refused_at lines (number + length (exit ∷ first)) second)
    (λ none. refused_append lines (number + 1) first second none
    ∙ ap (λ (n : ℕ). refused_behind (length first) (refused_at lines n second)) e) h

within_by : (b : Bool) (count refused : ℕ) (later : Option ℕ) → ((k : ℕ) → later ≡ Some k → k < count) → cond b (refused_more later) (Some 0) ≡ Some refused
    → refused < suc count
within_by true count refused (Some k) low h =
    let less : k < count = low k refl in
    let is : k + 1 ≡ refused = cc in
    omega arith
within_by true count refused None low h = cc
within_by false count refused later low h = let is : 0 ≡ refused = cc in omega arith

refused_within : (lines : List HostLine) (number : ℕ) (told : List Announced) (refused : ℕ) → refused_at lines number told ≡ Some refused → refused < length told
refused_within lines number [] refused h = cc
refused_within lines number (exit ∷ told) refused h =
    within_by (ap_error lines number == 0) (length told) refused (refused_at lines (number + 1) told)
    (λ k e. refused_within lines (number + 1) told k e) h

ends_within : (lines : List HostLine) (number count : ℕ) (refused : Option ℕ) → ((k : ℕ) → refused ≡ Some k → k < count) → EndsWithin count (end_by lines number refused)
ends_within lines number count None low = tt
ends_within lines number count (Some refused) low = let less : refused < count = low refused refl in omega arith

-- exits end within their number
pub ends_there : (image : Image) (number : ℕ) (told : List Announced) (news : List ApExit) (end : Result (Unit {0}) ApError) → news ≡ map (exit_of image.cores) told
    → end ≡ end_by image.host number (refused_at image.host number told) → EndsWithin (length news) end
ends_there image number told news end are is =
    let count : length told ≡ length news = sym (ap length are ∙ length-map told (exit_of image.cores)) in
    subst (λ (n : ℕ). EndsWithin n end) count
    (subst (EndsWithin (length told)) (sym is) (ends_within image.host number (length told) (refused_at image.host number told) (λ k e. refused_within image.host number told k e)))

-- ONE WAVE MORE

none_said : (image : Image) (refused : Option ℕ) → None ≡ said_of image refused → refused ≡ None
none_said image None h = refl
none_said image (Some refused) h = cc

-- so far the host took all
all_taken : (image : Image) (told : List Announced) (exits : List ApExit) → IsTold image told exits None → exits ≡ map (exit_of image.cores) told
all_taken image told exits is =
    is.took ∙ ap (λ (refused : Option ℕ). map (exit_of image.cores) (before_refused refused told)) (none_said image (refused_at image.host 0 told) is.said)

-- the exits behind the wave end so
pub record Ends (image : Image) (told more : List Announced) (exits : List ApExit) (refused : Option ℕ) : Type 0 where
  pub taken : exits ++ taken_by (end_by image.host (length told) refused) (map (exit_of image.cores) more)
      ≡ map (exit_of image.cores) (before_refused (refused_behind (length told) refused) (told ++ more))
  pub said : said_by (end_by image.host (length told) refused)
      ≡ said_of image (refused_behind (length told) refused)

ends_by : (image : Image) (told more : List Announced) (exits : List ApExit) (refused : Option ℕ) → exits ≡ map (exit_of image.cores) told
    → Ends image told more exits refused
ends_by image told more exits None are = record {
  taken = ap (λ (l : List ApExit). l ++ map (exit_of image.cores) more) are ∙ sym (map-append (exit_of image.cores) told more);
  said = refl;
}
ends_by image told more exits (Some refused) are = record {
  taken = ap (λ (l : List ApExit). l ++ take refused (map (exit_of image.cores) more)) are
      ∙ (ap (λ (l : List ApExit). map (exit_of image.cores) told ++ l) (take-map (exit_of image.cores) refused more)
      ∙ (sym (map-append (exit_of image.cores) told (take refused more))
      ∙ ap (map (exit_of image.cores)) (sym (take-append-add told more refused))));
  said = refl;
}

-- behind the exits of a wave
pub told_more : (image : Image) (told more : List Announced) (exits news new : List ApExit) (number : ℕ) (end : Result (Unit {0}) ApError) (said : Option (ℕ × ℕ))
    → IsTold image told exits None → number ≡ length exits → news ≡ map (exit_of image.cores) more
    → end ≡ end_by image.host number (refused_at image.host number more)
    → new ≡ exits ++ taken_by end news → said ≡ said_by end → IsTold image (told ++ more) new said
told_more image told more exits news new number end said is count are ended took says =
    let none : refused_at image.host 0 told ≡ None = none_said image (refused_at image.host 0 told) is.said in
    let all : exits ≡ map (exit_of image.cores) told = all_taken image told exits is in
    let counted : number ≡ length told = count ∙ (ap length all ∙ length-map told (exit_of image.cores)) in
    let from : 0 + length told ≡ length told = omega arith in
    let behind : refused_at image.host 0 (told ++ more) ≡ refused_behind (length told) (refused_at image.host (length told) more) =
    refused_append image.host 0 told more none ∙ ap (λ (n : ℕ). refused_behind (length told) (refused_at image.host n more)) from in
    let here : end ≡ end_by image.host (length told) (refused_at image.host (length told) more) =
    ended ∙ ap (λ (n : ℕ). end_by image.host n (refused_at image.host n more)) counted in
    let ends = ends_by image told more exits (refused_at image.host (length told) more) all in
    record {
      took = took ∙ (ap (λ (e : Result (Unit {0}) ApError). exits ++ taken_by e news) here
          ∙ (ap (λ (l : List ApExit). exits ++ taken_by (end_by image.host (length told) (refused_at image.host (length told) more)) l) are
          ∙ (ends.taken ∙ ap (λ (refused : Option ℕ). map (exit_of image.cores) (before_refused refused (told ++ more))) (sym behind))));
      said = says ∙ (ap said_by here ∙ (ends.said ∙ ap (said_of image) (sym behind)));
    }

-- behind a wave of which the host is told nothing
pub told_nothing : (image : Image) (told : List Announced) (exits : List ApExit) (before after : List Row) → image.announce ≡ false → IsTold image told exits None
    → IsTold image (told ++ told_between image before after) exits None
told_nothing image told exits before after quiet is =
    subst (λ (more : List Announced). IsTold image (told ++ more) exits None) (sym (nothing image.announce (exits_between before after) quiet))
    (subst (λ (all : List Announced). IsTold image all exits None) (sym (append-nil told)) is)
  where
    nothing : (b : Bool) (exits : List Announced) → b ≡ false → cond b exits [] ≡ []
    nothing true exits h = cc
    nothing false exits h = refl

pub told_all : (image : Image) (before after : List Row) → image.announce ≡ true → told_between image before after ≡ exits_between before after
told_all image before after loud = every image.announce (exits_between before after) loud
  where
    every : (b : Bool) (exits : List Announced) → b ≡ true → cond b exits [] ≡ exits
    every true exits h = refl
    every false exits h = cc

-- what it said tells whether it refused one
pub refused_so : (image : Image) (told : List Announced) (exits : List ApExit) (said : Option (ℕ × ℕ)) → IsTold image told exits said
    → is_some (refused_at image.host 0 told) ≡ is_some said
refused_so image told exits said is = sym (ap is_some is.said ∙ by (refused_at image.host 0 told))
  where
    by : (refused : Option ℕ) → is_some (said_of image refused) ≡ is_some refused
    by None = refl
    by (Some refused) = refl

-- before the first wave
pub told_none : (image : Image) → IsTold image [] [] None
told_none image = record { took = refl; said = refl }

pub none_low : All IsLow []
none_low k d low = absurd (omega arith)

pub said_none : (said : Option (ℕ × ℕ)) → is_some said ≡ false → said ≡ None
said_none None h = refl
said_none (Some said) h = cc

low_by : (end : Result (Unit {0}) ApError) (news : List ApExit) → All IsLow news → All IsLow (taken_by end news)
low_by (Ok done) news h = h
low_by (Err (Said index info1 info2)) news h = All-take IsLow index news h

-- those that were taken
pub low_taken : (old news new : List ApExit) (end : Result (Unit {0}) ApError) → All IsLow old → All IsLow news → new ≡ old ++ taken_by end news → All IsLow new
low_taken old news new end first more is = subst (All IsLow) (sym is) (All-append IsLow old (taken_by end news) first (low_by end news more))

-- of a result
pub if_both : {T E : Type 0} (r : Result T E) (X : Type 0) (P Q : T → Type 0) → OnOk r X → IfOk r P → (X → (t : T) → P t → Q t) → IfOk r Q
if_both (Ok t) X P Q x p f = f x t p
if_both (Err e) X P Q x p f = tt

pub on_both : {T E : Type 0} (r : Result T E) (X Y : Type 0) → OnOk r X → (X → Y) → OnOk r Y
on_both (Ok t) X Y x f = f x
on_both (Err e) X Y x f = tt
