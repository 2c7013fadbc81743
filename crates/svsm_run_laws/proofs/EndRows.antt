-- A core that left has no Entered row and nothing in its hands.
use Rattle.std.proofs.Common.{◌≡◌, ◌≢◌, ℕ, zero, suc, ◌+◌, ◌<◌, ◌≤◌, Bool, true, false, List, [], ◌∷◌, ◌++◌, map, length, append-nil, refl, sym, ap, ◌∙◌, subst, ⊎_elim, arith, Option, None, Some, eqb-true}
use Rattle.std.specs.Prelude.{◌==◌, ◌&&◌, ◌||◌, not, if◌then◌else◌, Contains, ⊤, filter, slice_index_or, flat_map}
use Rattle.std.specs.List.{list_all, list_any}
use Rattle.std.proofs.lemmas.Bool.{and_parts, eq-eqb, cases_Bool}
use Rattle.svsm_types.specs.declared.address.Page.{Page}
use Rattle.svsm_types.specs.declared.address.Gpa.{Gpa}
use Rattle.svsm_types.specs.declared.image.Image.{Image}
use Rattle.svsm_types.specs.declared.image.CoreLine.{CoreLine}
use Rattle.svsm_types.specs.declared.platform.Size.{Size}
use Rattle.svsm_types.specs.declared.request.Request.{Request}
use Rattle.svsm_types.specs.declared.vcpu.Row.{Row}
use Rattle.svsm_types.specs.declared.vcpu.RowState.{RowState}
use Rattle.svsm_types.specs.declared.vcpu.RowState.TheVariants.{Reserved, Ready, Entered, Left}
use Rattle.svsm_steps.specs.declared.step.Step.{Step}
use Rattle.svsm_steps.specs.declared.step.Step.TheVariants.{Reserve, Commit, Cancel, Retire, Remap, Enter, Leave}
use Rattle.svsm_steps.specs.declared.answer.Answer.{Answer}
use Rattle.svsm_steps.specs.declared.entry.Entry.{Entry}
use Rattle.svsm_steps.specs.declared.outcome.Outcome.{Outcome}
use Rattle.svsm_steps.specs.declared.outcome.CoreEnd.{CoreEnd}
use Rattle.svsm_steps.specs.declared.outcome.CoreRun.{CoreRun}
use Rattle.svsm_steps.specs.State.{State, Constants}
use Rattle.svsm_steps.specs.Registry.{of_page, of_page_in, of_apic_in, same_row_state, rows_refusal, rows_done, rows_after}
use Rattle.svsm_steps.specs.Machine.{Kind, region, pool, registry, kind, next_by, next, state_after, IsRunFrom}
use Rattle.svsm_steps.specs.Image.{constants_of, booted, accept, accepted, accept_entries, after_at, row_of}
use Rattle.svsm_steps.specs.Sound.{IsSound}
use Rattle.svsm_steps.specs.Partition.{of_core}
use Rattle.svsm_steps.specs.Made.{Made, made_of, made_by}
use Rattle.svsm_steps.specs.Words.{as_bit}
use Rattle.svsm_calls.specs.Run.{script_of, IsRun, IsCore, IsStarted, caller_of}
use Rattle.svsm_calls.specs.CoreRun.{IsCoreRun, done, faulted, host}
use Rattle.svsm_calls.specs.Events.{Event}
use Rattle.svsm_steps.specs.declared.call.Caller.{Caller}
use Rattle.svsm_calls.specs.Waves.{is_among, apic_of, no_core}
use Rattle.svsm_laws.specs.OfLines.{is_of_line}
use Rattle.svsm_laws.proofs.OfLines.{booted_rows_are_of_lines, rows_stay_of_lines}
use Rattle.svsm_run_laws.specs.Holding.{Position, before, inside, gone, cut, hold_of, is_inside, is_leave}
use Rattle.svsm_run_laws.specs.Follows.{Follows}
use Rattle.svsm_run_laws.specs.Accounts.{tally, over, row_part, reserved_rows, entered_rows, held_after}
use Rattle.svsm_run_laws.specs.Kept.{IsKept}
use Rattle.svsm_run_laws.specs.OwnRows.{after_steps, enters_by}
use Rattle.svsm_run_laws.specs.EndRows.{is_gone, is_still, EndsStill}
use Rattle.svsm_run_laws.proofs.Counts.{count-append, count-both, count_mapped_none}
use Rattle.svsm_run_laws.proofs.CoresFollow.{goes_well}
use Rattle.svsm_run_laws.proofs.Every.{every_run}
use Rattle.svsm_run_laws.proofs.Fresh.{distinct}
use Rattle.svsm_run_laws.proofs.Lists.{contains_head, contains_tail}
use Rattle.svsm_run_laws.proofs.OwnIds.{ComesAs, entry_comes, started_comes, ComeAs}
use Rattle.svsm_run_laws.proofs.OwnRows.{goes_along, inside_goes_on}
use Rattle.svsm_run_laws.proofs.Waves.{Line, line_of, none_by, of_waves, of_lines, each_core}

-- COUNTS

bit_le : (a b : Bool) (m n : ℕ) → (a ≡ true → b ≡ true) → m ≤ n → as_bit a + m ≤ as_bit b + n
bit_le false b m n f h = omega arith
bit_le true true m n f h = omega arith
bit_le true false m n f h = let e : false ≡ true = f refl in cc

mapped_most : {A : Type 0} (test : A → Bool) (change : A → A) (xs : List A) → ((x : A) → test (change x) ≡ true → test x ≡ true)
    → tally test (map change xs) ≤ tally test xs
mapped_most test change [] h = omega arith
mapped_most test change (x ∷ xs) h =
    bit_le (test (change x)) (test x) (tally test (map change xs)) (tally test xs) (h x) (mapped_most test change xs h)

kept_by : {A : Type 0} (test : A → Bool) (b : Bool) (x : A) (xs rest : List A) → tally test rest ≤ tally test xs
    → tally test (if b then x ∷ rest else rest) ≤ as_bit (test x) + tally test xs
kept_by test true x xs rest h = omega (arith, h)
kept_by test false x xs rest h = omega (arith, h)

filtered_most : {A : Type 0} (test keeps : A → Bool) (xs : List A) → tally test (filter keeps xs) ≤ tally test xs
filtered_most test keeps [] = omega arith
filtered_most test keeps (x ∷ xs) = kept_by test (keeps x) x xs (filter keeps xs) (filtered_most test keeps xs)

bit_none : (b : Bool) (n : ℕ) → as_bit b + n ≡ 0 → b ≡ false
bit_none true n e = absurd (omega (arith, e))
bit_none false n e = refl

rest_none : (b : Bool) (n : ℕ) → as_bit b + n ≡ 0 → n ≡ 0
rest_none b n e = omega (arith, e)

or_none : (a b : Bool) (n : ℕ) → (b ≡ false → n ≡ 0) → a ≡ false → b ≡ false → as_bit a + n ≡ 0
or_none true b n f h k = cc
or_none false b n f h k = let e = f k in omega (arith, e)

none_passes : {A : Type 0} (test : A → Bool) (xs : List A) → list_any test xs ≡ false → tally test xs ≡ 0
none_passes test [] h = refl
none_passes test (x ∷ xs) h = by_test (test x) (none_passes test xs) h
  where
    by_test : (b : Bool) → (list_any test xs ≡ false → tally test xs ≡ 0) → b || list_any test xs ≡ false → as_bit b + tally test xs ≡ 0
    by_test true rest h = cc
    by_test false rest h = let none = rest h in omega (arith, none)

-- ROWS

and_false : (b : Bool) → b && false ≡ false
and_false true = refl
and_false false = refl

set_state : (b : Bool) (state : RowState) (a : ℕ) (row : Row) → same_row_state state Entered ≡ false
    → of_apic_in Entered a (if b then record row { state = state } else row) ≡ true → of_apic_in Entered a row ≡ true
set_state true state a row s h = let wrong = (and_parts (row.apic == a) (same_row_state state Entered) h).1 in cc
set_state false state a row s h = h

set_caa : (b : Bool) (caa : Gpa) (a : ℕ) (row : Row)
    → of_apic_in Entered a (if b then record row { caa = caa } else row) ≡ true → of_apic_in Entered a row ≡ true
set_caa true caa a row h = h
set_caa false caa a row h = h

set_entered : (b : Bool) (id a : ℕ) (row : Row) → (b ≡ true → row.apic ≡ id) → id ≢ a
    → of_apic_in Entered a (if b then record row { state = Entered } else row) ≡ true → of_apic_in Entered a row ≡ true
set_entered true id a row e away h =
    absurd (away (sym (e refl) ∙ eqb-true row.apic a (and_parts (row.apic == a) true h).0))
set_entered false id a row e away h = h

set_left : (b : Bool) (a : ℕ) (row : Row) → of_apic_in Entered a row ≡ b
    → of_apic_in Entered a (if b then record row { state = Left } else row) ≡ false
set_left true a row e = and_false (row.apic == a)
set_left false a row e = e

-- steps that make no row of this APIC id Entered
abbrev AwayFrom : ℕ → Step → Type 0
AwayFrom a (Enter id) = id ≢ a
AwayFrom a _ = ⊤

done_falls : (a : ℕ) (rows : List Row) (step : Step) → AwayFrom a step → entered_rows a (rows_done rows step) ≤ entered_rows a rows
done_falls a rows (Reserve apic page caa) away =
    let row : Row = record { apic = apic; page = page; caa = caa; state = Reserved } in
    let more = count-append (of_apic_in Entered a) rows row in
    let none : of_apic_in Entered a row ≡ false = and_false (apic == a) in
    let bit : as_bit (of_apic_in Entered a row) ≡ 0 = ap as_bit none in
    omega (arith, more, bit)
done_falls a rows (Commit page) away =
    mapped_most (of_apic_in Entered a) (λ row. if of_page_in Reserved page.0 row then record row { state = Ready } else row) rows
    (λ row h. set_state (of_page_in Reserved page.0 row) Ready a row refl h)
done_falls a rows (Cancel page) away = filtered_most (of_apic_in Entered a) (λ row. not (of_page_in Reserved page.0 row)) rows
done_falls a rows (Retire page) away = filtered_most (of_apic_in Entered a) (λ row. not (of_page page.0 row)) rows
done_falls a rows (Remap apic caa) away =
    mapped_most (of_apic_in Entered a) (λ row. if of_apic_in Entered apic row then record row { caa = caa } else row) rows
    (λ row h. set_caa (of_apic_in Entered apic row) caa a row h)
done_falls a rows (Enter apic) away =
    mapped_most (of_apic_in Entered a) (λ row. if of_apic_in Ready apic row then record row { state = Entered } else row) rows
    (λ row h. set_entered (of_apic_in Ready apic row) apic a row
    (λ e. eqb-true row.apic apic (and_parts (row.apic == apic) (same_row_state row.state Ready) e).0) away h)
done_falls a rows (Leave apic) away =
    mapped_most (of_apic_in Entered a) (λ row. if of_apic_in Entered apic row then record row { state = Left } else row) rows
    (λ row h. set_state (of_apic_in Entered apic row) Left a row refl h)
done_falls a rows _ away = omega arith

rows_fall : (refused : Option Answer) (a : ℕ) (cores : List CoreLine) (rows : List Row) (core : ℕ) (step : Step)
    → rows_refusal cores rows core step ≡ refused → AwayFrom a step → entered_rows a (rows_after cores rows core step) ≤ entered_rows a rows
rows_fall None a cores rows core step e away = rw e (done_falls a rows step away)
rows_fall (Some other) a cores rows core step e away = rw e (omega arith)

next_falls : (kd : Kind) (a : ℕ) (constants : Constants) (state : State) (core : ℕ) (step : Step) (answer : Answer) → AwayFrom a step
    → entered_rows a (next_by kd constants state core step answer).rows ≤ entered_rows a state.rows
next_falls region a constants state core step answer away = omega arith
next_falls pool a constants state core step answer away = omega arith
next_falls registry a constants state core step answer away =
    rows_fall (rows_refusal constants.cores state.rows core step) a constants.cores state.rows core step refl away

left_none : (b : Bool) (a : ℕ) (cores : List CoreLine) (rows : List Row) (core : ℕ) → list_any (of_apic_in Entered a) rows ≡ b
    → entered_rows a (rows_after cores rows core (Leave a)) ≡ 0
left_none true a cores rows core e =
    rw e
    (count_mapped_none (of_apic_in Entered a) (λ row. if of_apic_in Entered a row then record row { state = Left } else row) rows
    (λ row. set_left (of_apic_in Entered a row) a row refl))
left_none false a cores rows core e = rw e (none_passes (of_apic_in Entered a) rows e)

-- ALONG ENTRIES: whether a core may have an Entered row

abbrev stands_by : Bool → Step → Answer → Bool
stands_by now (Enter apic) answer = true
stands_by now (Leave apic) answer = false
stands_by now step answer = now

-- an entry of the core comes or goes with its own APIC id, and others do not enter with it
record Owns (a core : ℕ) (entry : Entry) : Type 0 where
  own : entry.core ≡ core → ComesAs a entry.step
  others : entry.core ≢ core → AwayFrom a entry.step

own_by : (b : Bool) (step : Step) → is_leave step ≡ b → (a : ℕ) (now : Bool) (constants : Constants) (state : State) (core : ℕ) (answer : Answer)
    → ComesAs a step → (now ≡ false → entered_rows a state.rows ≡ 0) → stands_by now step answer ≡ false
    → entered_rows a (next_by (kind step) constants state core step answer).rows ≡ 0
own_by true (Leave apic) l a now constants state core answer own h e =
    subst (λ (id : ℕ). entered_rows a (rows_after constants.cores state.rows core (Leave id)) ≡ 0) (sym own)
    (left_none (list_any (of_apic_in Entered a) state.rows) a constants.cores state.rows core refl)
own_by true _ l a now constants state core answer own h e = cc
own_by false step l a now constants state core answer own h e =
    let most = next_falls (kind step) a constants state core step answer (away step e) in
    let none = h (kept step l e) in
    omega (arith, most, none)
  where
    away : (step : Step) → stands_by now step answer ≡ false → AwayFrom a step
    away (Enter apic) e = cc
    away _ e = tt

    kept : (step : Step) → is_leave step ≡ false → stands_by now step answer ≡ false → now ≡ false
    kept (Enter apic) l e = cc
    kept (Leave apic) l e = cc
    kept _ l e = e

away_from : (n core : ℕ) → (n == core) ≡ false → n ≢ core
away_from n core e same = let at : (n == core) ≡ true = eq-eqb n core same in cc

along_by : (b : Bool) (a core : ℕ) (now : Bool) (constants : Constants) (state : State) (entry : Entry) (entries : List Entry)
    → (entry.core == core) ≡ b → Owns a core entry → (now ≡ false → entered_rows a state.rows ≡ 0)
    → ((later : Bool) → (later ≡ false → entered_rows a (next constants state entry).rows ≡ 0)
    → after_steps stands_by later (of_core core entries) ≡ false → entered_rows a (state_after constants (next constants state entry) entries).rows ≡ 0)
    → after_steps stands_by now (if b then entry ∷ of_core core entries else of_core core entries) ≡ false
    → entered_rows a (state_after constants (next constants state entry) entries).rows ≡ 0
along_by true a core now constants state entry entries t owns h rest e =
    rest (stands_by now entry.step entry.answer)
    (λ l. own_by (is_leave entry.step) entry.step refl a now constants state entry.core entry.answer (owns.own (eqb-true entry.core core t)) h l) e
along_by false a core now constants state entry entries t owns h rest e =
    rest now
    (λ l.
    let most = next_falls (kind entry.step) a constants state entry.core entry.step entry.answer (owns.others (away_from entry.core core t)) in
    let none = h l in
    omega (arith, most, none)) e

ends_unentered : (a core : ℕ) (now : Bool) (constants : Constants) (state : State) (entries : List Entry)
    → ((entry : Entry) → Contains entries entry → Owns a core entry) → (now ≡ false → entered_rows a state.rows ≡ 0)
    → after_steps stands_by now (of_core core entries) ≡ false → entered_rows a (state_after constants state entries).rows ≡ 0
ends_unentered a core now constants state [] owns h e = h e
ends_unentered a core now constants state (entry ∷ entries) owns h e =
    along_by (entry.core == core) a core now constants state entry entries refl (owns entry (contains_head entry entries)) h
    (λ later g f. ends_unentered a core later constants (next constants state entry) entries
    (λ other has. owns other (contains_tail entry other entries has)) g f) e

-- WHAT A CORE MADE ENDS WITH ITS LEAVE

abbrev after_made : (Bool → Step → Answer → Bool) → Bool → List Made → Bool
after_made by now [] = now
after_made by now (m ∷ made) = after_made by (by now m.step m.answer) made

as_made : (by : Bool → Step → Answer → Bool) (now : Bool) (entries : List Entry)
    → after_steps by now entries ≡ after_made by now (map made_of entries)
as_made by now [] = refl
as_made by now (entry ∷ entries) = as_made by (by now entry.step entry.answer) entries

made-last : (by : Bool → Step → Answer → Bool) (now : Bool) (made : List Made) (m : Made)
    → ((now : Bool) → by now m.step m.answer ≡ false) → after_made by now (made ++ m ∷ []) ≡ false
made-last by now [] m h = h now
made-last by now (other ∷ made) m h = made-last by (by now other.step other.answer) made m h

abbrev Falls : (Bool → Step → Answer → Bool) → Type 0
Falls by = (now : Bool) (apic : ℕ) (answer : Answer) → by now (Leave apic) answer ≡ false

run_gone : (by : Bool → Step → Answer → Bool) → Falls by → (caller : Caller) (script : List Request) (made : List Made) (events : List Event)
    (outcomes : List Outcome) (end : CoreEnd) → is_gone end ≡ true → IsCoreRun caller script made events outcomes end
    → (now : Bool) → after_made by now made ≡ false
run_gone by falls caller script _ _ _ _ e (done made events outcomes now due ticket answer pieces may) first =
    made-last by first made _ (λ now. falls now caller.apic answer)
run_gone by falls caller script _ _ _ _ e (faulted front after request made steps events runs asked outcomes now due ticket is pieces run cut_off) first = cc
run_gone by falls caller script _ _ _ _ e (host front after request made events outcomes now got is pieces bad) first = cc

started_gone : (by : Bool → Step → Answer → Bool) → Falls by → (image : Image) (core : ℕ) (script : List Request) (made : List Made)
    (outcomes : List Outcome) (end : CoreEnd) → is_gone end ≡ true → IsStarted image core script made outcomes end
    → after_made by false made ≡ false
started_gone by falls image core script made outcomes end e h =
    rw h.begins (run_gone by falls (caller_of image core h.caa) script h.rest h.events outcomes end e h.run _)

core_gone : (by : Bool → Step → Answer → Bool) → Falls by → (image : Image) (scripts : List (List Request)) (entries : List Entry) (cores : List CoreRun)
    → IsRun image scripts entries cores → ((run : CoreRun) → Contains cores run → is_gone run.end ≡ true)
    → (core : ℕ) → after_steps by false (of_core core entries) ≡ false
core_gone by falls image scripts entries cores run all core =
    as_made by false (of_core core entries)
    ∙ ⊎_elim
    (λ (among : is_among core run.ran ≡ true).
    let low : core < length image.cores = of_lines image entries run.ran run.exits run.waves core among in
    let line : Line image scripts entries run.ran cores core = line_of image scripts entries run.ran cores core run.each low in
    let its : IsCore true image core (script_of scripts core) (made_by core entries) line.run =
    subst (λ (b : Bool). IsCore b image core (script_of scripts core) (made_by core entries) line.run) among line.gave in
    started_gone by falls image core (script_of scripts core) (made_by core entries) line.run.outcomes line.run.end
    (all line.run line.of_run) its.1)
    (λ (out : is_among core run.ran ≡ false).
    ap (λ (l : List Entry). after_made by false (map made_of l))
    (none_by core entries (of_core core entries) refl
    (λ entry has same.
    let among : is_among entry.core run.ran ≡ true = of_waves image entries run.ran run.exits run.waves entry has in
    let wrong : true ≡ false = sym among ∙ ap (λ (c : ℕ). is_among c run.ran) same ∙ out in
    cc)))
    (cases_Bool (is_among core run.ran))

-- THE BOOTED STATE HAS NO ENTERED ROW

row_unentered : (a : ℕ) (core : CoreLine) (seat : Option (Page × Gpa)) → entered_rows a (row_of core seat) ≡ 0
row_unentered a core None = refl
row_unentered a core (Some seat) =
    let none : as_bit ((core.apic == a) && false) ≡ 0 = ap as_bit (and_false (core.apic == a)) in omega (arith, none)

lines_unentered : (a : ℕ) (cores : List CoreLine) → entered_rows a (flat_map (λ (core : CoreLine). row_of core core.seat) cores) ≡ 0
lines_unentered a [] = refl
lines_unentered a (core ∷ cores) =
    let rest : List Row = flat_map (λ (core : CoreLine). row_of core core.seat) cores in
    let both : entered_rows a (row_of core core.seat ++ rest) ≡ entered_rows a (row_of core core.seat) + entered_rows a rest =
    count-both (of_apic_in Entered a) (row_of core core.seat) rest in
    let first = row_unentered a core core.seat in
    let more = lines_unentered a cores in
    both ∙ omega (arith, first, more)

accepted_rows : (vmpl : ℕ) (entries : List (ℕ × Size)) (state : State) → (accepted vmpl entries state).rows ≡ state.rows
accepted_rows vmpl [] state = refl
accepted_rows vmpl (entry ∷ entries) state = accepted_rows vmpl entries (after_at entry.0 (accept vmpl entry) state)

booted_unentered : (image : Image) (a : ℕ) → entered_rows a (booted image).rows ≡ 0
booted_unentered image a =
    ap (entered_rows a) (accepted_rows image.vmpl.0 (accept_entries image) _) ∙ lines_unentered a image.cores

-- EACH ROW IS STILL

record IsAt (apic : ℕ) (cores : List CoreLine) : Type 0 where
  number : ℕ
  low : number < length cores
  same : (slice_index_or cores number no_core).apic ≡ apic

line_with : (apic : ℕ) (cores : List CoreLine) → list_any (λ (line : CoreLine). line.apic == apic) cores ≡ true → IsAt apic cores
line_with apic [] h = cc
line_with apic (line ∷ cores) h = by_test (line.apic == apic) refl (line_with apic cores) h
  where
    by_test : (b : Bool) → (line.apic == apic) ≡ b
        → (list_any (λ (line : CoreLine). line.apic == apic) cores ≡ true → IsAt apic cores)
        → b || list_any (λ (line : CoreLine). line.apic == apic) cores ≡ true
        → IsAt apic (line ∷ cores)
    by_test true t rest h = record { number = 0; low = omega arith; same = eqb-true line.apic apic t }
    by_test false t rest h =
        let at : IsAt apic cores = rest h in
        record { number = suc at.number; low = (let low = at.low in omega (arith, low)); same = at.same }

both_still : (reserved entered : Bool) (rest : Bool) → reserved ≡ false → entered ≡ false → rest ≡ true
    → (not reserved && not entered) && rest ≡ true
both_still false false rest r e h = h
both_still true entered rest r e h = cc
both_still false true rest r e h = cc

still_rows : (cores : List CoreLine) (rows : List Row) → ((page : ℕ) → reserved_rows page rows ≡ 0)
    → ((apic : ℕ) → list_any (λ (line : CoreLine). line.apic == apic) cores ≡ true → entered_rows apic rows ≡ 0)
    → list_all (is_of_line cores) rows ≡ true → list_all is_still rows ≡ true
still_rows cores [] r e l = refl
still_rows cores (row ∷ rows) r e l =
    let both = and_parts (is_of_line cores row) (list_all (is_of_line cores) rows) l in
    both_still (same_row_state row.state Reserved) (same_row_state row.state Entered) (list_all is_still rows)
    (own (row.page.0 == row.page.0) (same_row_state row.state Reserved) (eq-eqb row.page.0 row.page.0 refl)
    (bit_none (of_page_in Reserved row.page.0 row) (reserved_rows row.page.0 rows) (r row.page.0)))
    (own (row.apic == row.apic) (same_row_state row.state Entered) (eq-eqb row.apic row.apic refl)
    (bit_none (of_apic_in Entered row.apic row) (entered_rows row.apic rows) (e row.apic both.0)))
    (still_rows cores rows (λ page. rest_none (of_page_in Reserved page row) (reserved_rows page rows) (r page))
    (λ apic a. rest_none (of_apic_in Entered apic row) (entered_rows apic rows) (e apic a)) both.1)
  where
    own : (a b : Bool) → a ≡ true → a && b ≡ false → b ≡ false
    own true b e h = h
    own false b e h = cc

over_none : (f : ℕ → ℕ) (from count : ℕ) → ((k : ℕ) → f k ≡ 0) → over f from count ≡ 0
over_none f from zero h = refl
over_none f from (suc count) h =
    let a = h from in
    let i = over_none f (from + 1) count h in
    omega (arith, a, i)

no_part : (page : ℕ) (position : Position) → is_inside position ≡ false → row_part page (hold_of position) ≡ 0
no_part page before e = refl
no_part page (inside hold) e = cc
no_part page gone e = refl
no_part page (cut hold) e = cc

module _ (image : Image) (scripts : List (List Request)) (entries : List Entry) (cores : List CoreRun)
    (sound : IsSound image) (run : IsRun image scripts entries cores) (all : (one : CoreRun) → Contains cores one → is_gone one.end ≡ true) where
  kept : IsKept image entries
  kept = every_run image scripts entries cores entries [] sound run (sym (append-nil entries))

  legal : IsRunFrom (constants_of image) 0 (booted image) (entries ++ [])
  legal = subst (λ (l : List Entry). IsRunFrom (constants_of image) 0 (booted image) l) (sym (append-nil entries)) run.legal

  follows : (core : ℕ) → Follows (apic_of image core) before (made_by core (entries ++ []))
  follows core =
      subst (λ (l : List Entry). Follows (apic_of image core) before (made_by core l)) (sym (append-nil entries))
      ((goes_well image scripts entries cores run).follows core)

  pub outside_guest : (core : ℕ) → is_inside (held_after (λ (k : ℕ). before) entries core) ≡ false
  outside_guest core =
      sym (goes_along enters_by is_inside inside_goes_on (apic_of image core) (constants_of image) core entries [] 0 (booted image) (λ (k : ℕ). before)
      legal kept.none_odd (follows core))
      ∙ core_gone enters_by (λ now apic answer. refl) image scripts entries cores run all core

  none_reserved : (page : ℕ) → reserved_rows page (state_after (constants_of image) (booted image) entries).rows ≡ 0
  none_reserved page =
      kept.accounts.reservations page
      ∙ over_none (λ core. row_part page (hold_of (held_after (λ (k : ℕ). before) entries core))) 0 (length (constants_of image).cores)
      (λ core. no_part page (held_after (λ (k : ℕ). before) entries core) (outside_guest core))

  comes : (entry : Entry) → Contains entries entry → ComesAs (apic_of image entry.core) entry.step
  comes entry has =
      entry_comes (apic_of image entry.core) entry.core entry refl entries
      (each_core image scripts entries cores run (ComeAs (apic_of image entry.core)) entry.core tt
      (λ outcomes end started. started_comes image entry.core (script_of scripts entry.core) (made_by entry.core entries) outcomes end started)) has

  other_step : (a own : ℕ) (step : Step) → ComesAs own step → own ≢ a → AwayFrom a step
  other_step a own (Enter id) h away = λ e. away (sym h ∙ e)
  other_step a own _ h away = tt

  owns : (core : ℕ) → core < length image.cores → (entry : Entry) → Contains entries entry → Owns (apic_of image core) core entry
  owns core low entry has = record {
    own = λ same. subst (λ (c : ℕ). ComesAs (apic_of image c) entry.step) same (comes entry has);
    others = λ away. other_step (apic_of image core) (apic_of image entry.core) entry.step (comes entry has)
        (λ same. away (distinct image sound entry.core core
        (of_lines image entries run.ran run.exits run.waves entry.core (of_waves image entries run.ran run.exits run.waves entry has)) low same));
  }

  none_entered : (apic : ℕ) → list_any (λ (line : CoreLine). line.apic == apic) image.cores ≡ true
      → entered_rows apic (state_after (constants_of image) (booted image) entries).rows ≡ 0
  none_entered apic h =
      let at : IsAt apic image.cores = line_with apic image.cores h in
      subst (λ (a : ℕ). entered_rows a (state_after (constants_of image) (booted image) entries).rows ≡ 0) at.same
      (ends_unentered (apic_of image at.number) at.number false (constants_of image) (booted image) entries (owns at.number at.low)
      (λ e. booted_unentered image (apic_of image at.number))
      (core_gone stands_by (λ now apic answer. refl) image scripts entries cores run all at.number))

  still : list_all is_still (state_after (constants_of image) (booted image) entries).rows ≡ true
  still =
      still_rows image.cores (state_after (constants_of image) (booted image) entries).rows none_reserved none_entered
      (rows_stay_of_lines (constants_of image) (booted image) entries (booted_rows_are_of_lines image))

pub ends_still : EndsStill
ends_still = still
