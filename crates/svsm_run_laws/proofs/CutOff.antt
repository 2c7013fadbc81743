-- List calls that a fault cut off: they perform their indexes as whole calls do.
use Rattle.std.proofs.Common.{◌≡◌, ℕ, zero, suc, ◌+◌, ◌*◌, ◌<◌, ◌≤◌, Bool, true, false, Option, None, Some, List, [], ◌∷◌, ◌++◌, length, map, get_or, refl, sym, ap, ◌∙◌, subst, ⊎_elim, inl, inr, arith, length-append, append_assoc}
use Rattle.std.proofs.lemmas.List.FromFn.{length-range_with_len}
use Rattle.std.specs.Prelude.{◌⊎◌, Contains, IsTrue, Result, Ok, nat_lt}
use Rattle.std.specs.List.{range_with_len}
use Rattle.svsm_types.specs.declared.address.Page.{Page}
use Rattle.svsm_types.specs.declared.image.Image.{Image}
use Rattle.svsm_types.specs.declared.image.CoreLine.{CoreLine}
use Rattle.svsm_types.specs.declared.request.Request.{Request}
use Rattle.svsm_types.specs.declared.request.Request.TheVariants as requests
use Rattle.svsm_types.specs.declared.call.Regs.{Regs}
use Rattle.svsm_types.specs.declared.call.Code.{Code}
use Rattle.svsm_types.specs.declared.call.Call.{Call}
use Rattle.svsm_steps.specs.declared.step.Step.{Step}
use Rattle.svsm_steps.specs.declared.step.Step.TheVariants.{GuestPend, LoadWord, StoreNext, SetAvail, Release, PoolPop}
use Rattle.svsm_steps.specs.declared.answer.Answer.{Answer}
use Rattle.svsm_steps.specs.declared.answer.Answer.TheVariants.{Done, Word, Refused, Block, Empty, Fault}
use Rattle.svsm_steps.specs.declared.call.Caller.{Caller}
use Rattle.svsm_steps.specs.declared.call.Do.{Do}
use Rattle.svsm_steps.specs.declared.call.Do.TheVariants as todo
use Rattle.svsm_steps.specs.declared.entry.Entry.{Entry}
use Rattle.svsm_steps.specs.declared.outcome.Outcome.{Outcome}
use Rattle.svsm_steps.specs.declared.outcome.CoreEnd.{CoreEnd}
use Rattle.svsm_steps.specs.declared.outcome.CoreEnd.TheVariants as ends
use Rattle.svsm_steps.specs.declared.outcome.CoreRun.{CoreRun}
use Rattle.svsm_steps.specs.Formed.{is_listed}
use Rattle.svsm_steps.specs.Made.{Made, made_of, made_by}
use Rattle.svsm_steps.specs.Partition.{of_core}
use Rattle.svsm_steps.specs.State.{State, Constants, word_at}
use Rattle.svsm_steps.specs.Machine.{IsRunFrom, state_after}
use Rattle.svsm_calls.specs.Lists.{entries_of, next_of, entry_at, is_size, entry_size}
use Rattle.svsm_calls.specs.Dialogue.{Dialogue, ask, poll, reply, spurious, Asked, ◌gives◌, AreListed, first_of, IsWhole}
use Rattle.svsm_calls.specs.Calls.{ListCall, pvalidate, deposit, withdraw, Listed, End, list_of, decoded, whole_call}
use Rattle.svsm_calls.specs.Sequences.{loads, loaded, fills, IsPerformed, withdrawn, IsFailed, not_loaded, no_size, validate_page, validate_same, validate_refused, validate_code, deposit_page, deposit_refused, deposit_code, not_filled, strange, ArePerformed, IsEnd, at_whole, at_stopped, at_failed, at_dry, pool_left, joined, IsAvail, IsWalk, loads_header, listed, IsListCall, bad_list, no_header, bad_header, walked, IsDecoded, takes_pending, IsExit, not_taken, not_pending, called, IsSequence, IsCall}
use Rattle.svsm_calls.specs.Events.{Event, pairs_of}
use Rattle.svsm_calls.specs.CoreRun.{IsCallCut, IsCutOff, IsCoreRun, done, faulted, host}
use Rattle.svsm_calls.specs.Once.{asked_by, CallMade, entries_by, indexes_by, AreStopped}
use Rattle.svsm_calls.specs.Resumed.{WordStood, IsFetched, AllStopped, AreFollowed}
use Rattle.svsm_calls.specs.Waves.{is_among}
use Rattle.svsm_calls.specs.Run.{IsStarted, IsCore, AreCores, IsRun, script_of}
use Rattle.svsm_calls.proofs.Prefix.{usual, usual_listed, Completes, completes, prefix_of, listed_both}
use Rattle.svsm_calls.proofs.Whole.{call_sound}
use Rattle.svsm_run_laws.specs.CutOff.{IsBegun, performing, failing, IsClosing, stores, tells, IsCutAt, in_entry, past_entries, IsWalkCut, CallCut, indexes_cut, IsCutInOrder, CutCallsAreInOrder, IsOnceCut, OnceCut, CutInRuns, as_call, up_to_header, IsCutAs, before_walk, in_walk, EndsInCall, FaultsEndInCalls}
use Rattle.svsm_run_laws.proofs.Lists.{Split, split, contains_head, contains_tail, contains_cases, range-append}
use Rattle.svsm_run_laws.proofs.Headers.{AreSeen}
use Rattle.svsm_run_laws.proofs.Walked.{end_low}
use Rattle.svsm_run_laws.proofs.Resumed.{joined_long, once_by, followed_see, loads_go_on, Place, behind, before_more, Begins, part_begins, BeginsAt, parts_begin, Source, source_by, word_stood, asked-append}

-- WHERE A WALK IS CUT

-- a step of two lists of steps: in the first, or behind it
record Inside (xs rest : List Asked) (x : Asked) : Type 0 where
  after : List Asked
  is : xs ≡ rest ++ x ∷ after

record Behind (xs ys rest : List Asked) (x : Asked) (more : List Asked) : Type 0 where
  later : List Asked
  is : rest ≡ xs ++ later
  at : ys ≡ later ++ x ∷ more

split_by : (xs ys rest : List Asked) (x : Asked) (more : List Asked) → xs ++ ys ≡ rest ++ x ∷ more → Inside xs rest x ⊎ Behind xs ys rest x more
split_by [] ys rest x more e = inr (record { later = rest; is = refl; at = e })
split_by (y ∷ xs) ys [] x more e = let same : y ≡ x = cc in inl (record { after = xs; is = ap (λ z. z ∷ xs) same })
split_by (y ∷ xs) ys (r ∷ rest) x more e =
    let same : y ≡ r = cc in
    let tail : xs ++ ys ≡ rest ++ x ∷ more = cc in
    ⊎_elim
    (λ (i : Inside xs rest x). inl (record { after = i.after; is = ap (λ l. y ∷ l) i.is ∙ ap (λ z. z ∷ (rest ++ x ∷ i.after)) same }))
    (λ (b : Behind xs ys rest x more).
    inr (record { later = b.later; is = ap (λ l. r ∷ l) b.is ∙ ap (λ z. z ∷ (xs ++ b.later)) (sym same); at = b.at }))
    (split_by xs ys rest x more tail)

-- a step of the parts of performed entries
record InParts (w : Listed) (i : ℕ) (parts : List (List Asked)) (rest : List Asked) (x : Asked) : Type 0 where
  done : List (List Asked)
  begun : List Asked
  after : List Asked
  performed : ArePerformed w i done
  low : length done < length parts
  part : IsPerformed w (i + length done) w.call (begun ++ x ∷ after)
  made : rest ≡ joined done ++ begun

parts_by : (w : Listed) (i : ℕ) (parts : List (List Asked)) → ArePerformed w i parts → (later rest : List Asked) (x : Asked) (more : List Asked)
    → joined parts ++ later ≡ rest ++ x ∷ more → InParts w i parts rest x ⊎ Behind (joined parts) later rest x more
parts_by w i [] h later rest x more e = inr (record { later = rest; is = refl; at = e })
parts_by w i (part ∷ parts) h later rest x more e =
    ⊎_elim
    (λ (a : Inside part rest x).
    let at : i ≡ i + 0 = omega arith in
    inl (record {
      done = [];
      begun = rest;
      after = a.after;
      performed = tt;
      low = omega arith;
      part = subst (λ (j : ℕ). IsPerformed w j w.call (rest ++ x ∷ a.after)) at (subst (λ l. IsPerformed w i w.call l) a.is h.0);
      made = refl;
    }))
    (λ (b : Behind part (joined parts ++ later) rest x more).
    ⊎_elim
    (λ (p : InParts w (i + 1) parts b.later x).
    let at : (i + 1) + length p.done ≡ i + suc (length p.done) = omega arith in
    let low : length p.done < length parts = p.low in
    inl (record {
      done = part ∷ p.done;
      begun = p.begun;
      after = p.after;
      performed = (h.0, p.performed);
      low = omega arith;
      part = subst (λ (j : ℕ). IsPerformed w j w.call (p.begun ++ x ∷ p.after)) at p.part;
      made = b.is ∙ ap (λ l. part ++ l) p.made ∙ sym (append_assoc part (joined p.done) p.begun);
    }))
    (λ (q : Behind (joined parts) later b.later x more).
    inr (record { later = q.later; is = b.is ∙ ap (λ l. part ++ l) q.is ∙ sym (append_assoc part (joined parts) q.later); at = q.at }))
    (parts_by w (i + 1) parts h.1 later b.later x more b.at))
    (split_by part (joined parts ++ later) rest x more (sym (append_assoc part (joined parts) later) ∙ e))

no_step : (front : List Asked) (x : Asked) (back : List Asked) → [] ≡ front ++ x ∷ back → ⊥
no_step [] x back e = cc
no_step (y ∷ front) x back e = cc

-- where the pool was dry, a block would have gone on so
abbrev block_rest : Listed → ℕ → ℕ → Page → List Asked
block_rest w k word page = fills w k word page gives Done ∷ (Release w.caller.vmpl page (entry_size word) gives Done ∷ [])

abbrev any_page : Page
any_page = record { 0 = 0 }

abbrev block_part : Listed → ℕ → ℕ → List Asked
block_part w k word = loaded w k word ∷ (PoolPop (entry_size word) gives Block any_page 0 ∷ block_rest w k word any_page)

module _ (w : Listed) (n k : ℕ) where
  dry_part : (word : ℕ) → w.call ≡ withdraw → is_size word ≡ true → IsPerformed w k w.call (block_part w k word)
  dry_part word call size = subst (λ (c : ListCall). IsPerformed w k c (block_part w k word)) (sym call) (withdrawn word any_page 0 size)

  dry_cut : (m word left : ℕ) → k < n → w.call ≡ withdraw → is_size word ≡ true → (begun : List Asked) (step : Step) (answer : Answer) (after : List Asked)
      → loaded w k word ∷ (PoolPop (entry_size word) gives Empty left ∷ []) ≡ begun ++ step gives answer ∷ after → IsCutAt w n k m begun step
  dry_cut m word left low call size [] step answer after e =
      let head : loaded w k word ≡ step gives answer = cc in
      let is : loads w k ≡ step = ap (λ (a : Asked). a.step) head in
      let part : IsPerformed w k w.call (step gives Word word ∷ (PoolPop (entry_size word) gives Block any_page 0 ∷ block_rest w k word any_page)) =
      subst (λ (s : Step). IsPerformed w k w.call (s gives Word word ∷ (PoolPop (entry_size word) gives Block any_page 0 ∷ block_rest w k word any_page)))
      is (dry_part word call size) in
      in_entry [] step low (performing (Word word) (PoolPop (entry_size word) gives Block any_page 0 ∷ block_rest w k word any_page) part)
  dry_cut m word left low call size (a ∷ []) step answer after e =
      let head : loaded w k word ≡ a = cc in
      let next : PoolPop (entry_size word) gives Empty left ≡ step gives answer = cc in
      let is : PoolPop (entry_size word) ≡ step = ap (λ (a : Asked). a.step) next in
      let half : IsPerformed w k w.call (a ∷ (PoolPop (entry_size word) gives Block any_page 0 ∷ block_rest w k word any_page)) =
      subst (λ (b : Asked). IsPerformed w k w.call (b ∷ (PoolPop (entry_size word) gives Block any_page 0 ∷ block_rest w k word any_page)))
      head (dry_part word call size) in
      let part : IsPerformed w k w.call (a ∷ (step gives Block any_page 0 ∷ block_rest w k word any_page)) =
      subst (λ (s : Step). IsPerformed w k w.call (a ∷ (s gives Block any_page 0 ∷ block_rest w k word any_page))) is half in
      in_entry (a ∷ []) step low (performing (Block any_page 0) (block_rest w k word any_page) part)
  dry_cut m word left low call size (a ∷ (b ∷ begun)) step answer after e =
      absurd (no_step begun (step gives answer) after cc)

tail_cut : (w : Listed) (n k m : ℕ) (end : End) (tail : List Asked) (polls : List Bool) → IsEnd w n k m end tail polls
    → (begun : List Asked) (step : Step) (answer : Answer) (after : List Asked) → tail ≡ begun ++ step gives answer ∷ after
    → IsCutAt w n k m begun step
tail_cut w n _ _ _ _ _ (at_whole m) begun step answer after e = absurd (no_step begun (step gives answer) after e)
tail_cut w n _ _ _ _ _ (at_stopped m k low) begun step answer after e = absurd (no_step begun (step gives answer) after e)
tail_cut w n _ _ _ _ _ (at_failed m k code tail low is) begun step answer after e =
    in_entry begun step low (failing answer after code (subst (λ l. IsFailed w k w.call l code) e is))
tail_cut w n _ _ _ _ _ (at_dry m k word left low call size) begun step answer after e =
    dry_cut w n k m word left low call size begun step answer after e

-- past the entries
avail_cut : (w : Listed) (k : ℕ) (stored : Answer) (left : Option ℕ) (avail : List Asked) → IsAvail w.caller left avail
    → (begun : List Asked) (step : Step) (answer : Answer) (more : List Asked) → avail ≡ begun ++ step gives answer ∷ more
    → IsClosing w k (StoreNext w.caller.vmpl (list_of w.regs) k gives stored ∷ begun) step
avail_cut w k stored None avail h begun step answer more e = absurd (no_step begun (step gives answer) more (sym h ∙ e))
avail_cut w k stored (Some left) avail h [] step answer more e =
    let both : SetAvail w.caller.vmpl w.caller.caa (nat_lt 0 left) gives h.0 ∷ [] ≡ step gives answer ∷ more = sym h.1 ∙ e in
    let head : SetAvail w.caller.vmpl w.caller.caa (nat_lt 0 left) gives h.0 ≡ step gives answer = cc in
    subst (λ (s : Step). IsClosing w k (StoreNext w.caller.vmpl (list_of w.regs) k gives stored ∷ []) s) (ap (λ (a : Asked). a.step) head)
    (tells stored (nat_lt 0 left))
avail_cut w k stored (Some left) avail h (b ∷ begun) step answer more e =
    let both : SetAvail w.caller.vmpl w.caller.caa (nat_lt 0 left) gives h.0 ∷ [] ≡ b ∷ (begun ++ step gives answer ∷ more) = sym h.1 ∙ e in
    absurd (no_step begun (step gives answer) more cc)

closing_by : (w : Listed) (k : ℕ) (stored : Answer) (left : Option ℕ) (avail : List Asked) → IsAvail w.caller left avail
    → (later : List Asked) (step : Step) (answer : Answer) (more : List Asked)
    → StoreNext w.caller.vmpl (list_of w.regs) k gives stored ∷ avail ≡ later ++ step gives answer ∷ more → IsClosing w k later step
closing_by w k stored left avail h [] step answer more e =
    let head : StoreNext w.caller.vmpl (list_of w.regs) k gives stored ≡ step gives answer = cc in
    subst (λ (s : Step). IsClosing w k [] s) (ap (λ (a : Asked). a.step) head) stores
closing_by w k stored left avail h (b ∷ later) step answer more e =
    let head : StoreNext w.caller.vmpl (list_of w.regs) k gives stored ≡ b = cc in
    let rest : avail ≡ later ++ step gives answer ∷ more = cc in
    subst (λ (a : Asked). IsClosing w k (a ∷ later) step) head (avail_cut w k stored left avail h later step answer more rest)

end_cut : (w : Listed) (n k m : ℕ) (end : End) (tail : List Asked) (polls : List Bool) → IsEnd w n k m end tail polls
    → (stored : Answer) (left : Option ℕ) (avail : List Asked) → IsAvail w.caller left avail
    → (begun : List Asked) (step : Step) (answer : Answer) (more : List Asked)
    → tail ++ (StoreNext w.caller.vmpl (list_of w.regs) k gives stored ∷ avail) ≡ begun ++ step gives answer ∷ more
    → IsCutAt w n k m begun step
end_cut w n k m end tail polls is stored left avail h begun step answer more e =
    ⊎_elim (λ (i : Inside tail begun (step gives answer)). tail_cut w n k m end tail polls is begun step answer i.after i.is)
    (λ (b : Behind tail (StoreNext w.caller.vmpl (list_of w.regs) k gives stored ∷ avail) begun (step gives answer) more).
    subst (λ (l : List Asked). IsCutAt w n k m l step) (sym b.is)
    (past_entries end tail b.later polls step is (closing_by w k stored left avail h b.later step answer more b.at)))
    (split_by tail (StoreNext w.caller.vmpl (list_of w.regs) k gives stored ∷ avail) begun (step gives answer) more e)

-- the front of a whole walk, before one of its steps
walk_cut : (w : Listed) (n : ℕ) (pairs : List Asked) (polls : List Bool) (outcome : Do) → IsWalk w n pairs polls outcome
    → (rest : List Asked) (step : Step) (answer : Answer) (more : List Asked) → pairs ≡ rest ++ step gives answer ∷ more
    → IsWalkCut w n rest step
walk_cut w n pairs polls outcome walk rest step answer more e =
    let ends : List Asked =
    walk.tail ++ (StoreNext w.caller.vmpl (list_of w.regs) (w.first + length walk.parts) gives walk.stored ∷ walk.avail) in
    let last : w.first + length walk.parts ≤ n =
    end_low w n (w.first + length walk.parts) (length walk.parts) walk.end walk.tail polls walk.ends in
    ⊎_elim
    (λ (p : InParts w w.first walk.parts rest (step gives answer)).
    let low : length p.done < length walk.parts = p.low in
    record {
      parts = p.done;
      begun = p.begun;
      performed = p.performed;
      cut = in_entry p.begun step (omega arith) (performing answer p.after p.part);
      made = p.made;
    })
    (λ (q : Behind (joined walk.parts) ends rest (step gives answer) more).
    record {
      parts = walk.parts;
      begun = q.later;
      performed = walk.performed;
      cut = end_cut w n (w.first + length walk.parts) (length walk.parts) walk.end walk.tail polls walk.ends walk.stored
          (pool_left None (joined walk.parts ++ walk.tail)) walk.avail walk.avails q.later step answer more q.at;
      made = q.is;
    })
    (parts_by w w.first walk.parts walk.performed ends rest (step gives answer) more (sym walk.made ∙ e))

-- CALLS OF A RUN

-- the load with which a part begins
fetched_by : (constants : Constants) (n : ℕ) (state : State) (entries : List Entry) → IsRunFrom constants n state entries
    → (w : Listed) (list j : ℕ) → w.regs.rcx ≡ list → (rest : List Entry) → ((entry : Entry) → Contains rest entry → Contains entries entry)
    → (part : List Asked) (word : ℕ) (others : List Asked) → part ≡ loaded w j word ∷ others → Place (asked_by rest) (loaded w j word)
    → IsFetched constants state entries rest w.caller.vmpl (entry_at list j) part
fetched_by constants n state entries run w list j on rest of_run part word others is place =
    let s : Source rest (loaded w j word) = source_by rest place.front (loaded w j word) place.back place.is in
    subst (λ (l : ℕ). IsFetched constants state entries rest w.caller.vmpl (entry_at l j) part) on
    (record {
      word = word;
      others = others;
      load = s.entry;
      begins = is;
      of_call = s.of_it;
      loads = s.is;
      stood = word_stood constants n state entries run s.entry w.caller.vmpl (entry_at w.regs.rcx j) word (of_run s.entry s.of_it) s.is;
    })

-- a failing entry begins with its load, unless that was refused
failed_begins : (w : Listed) (j : ℕ) (call : ListCall) (tail : List Asked) (code : ℕ) → IsFailed w j call tail code
    → (tail ≡ loads w j gives Refused ∷ []) ⊎ Begins w j tail
failed_begins w j _ _ _ not_loaded = inl refl
failed_begins w j _ _ _ (no_size word size) = inr (record { word = word; others = _; is = refl })
failed_begins w j _ _ _ (validate_page word code size page) = inr (record { word = word; others = _; is = refl })
failed_begins w j _ _ _ (validate_same word size page bit) = inr (record { word = word; others = _; is = refl })
failed_begins w j _ _ _ (validate_refused word size page) = inr (record { word = word; others = _; is = refl })
failed_begins w j _ _ _ (validate_code word code size page) = inr (record { word = word; others = _; is = refl })
failed_begins w j _ _ _ (deposit_page word code size page) = inr (record { word = word; others = _; is = refl })
failed_begins w j _ _ _ (deposit_refused word size page) = inr (record { word = word; others = _; is = refl })
failed_begins w j _ _ _ (deposit_code word code size page) = inr (record { word = word; others = _; is = refl })
failed_begins w j _ _ _ (not_filled word page left held size) = inr (record { word = word; others = _; is = refl })
failed_begins w j _ _ _ (strange word page left owner size) = inr (record { word = word; others = _; is = refl })

head_begins : (w : Listed) (j : ℕ) (a : Asked) (begun after : List Asked) → Begins w j (a ∷ after) → Begins w j (a ∷ begun)
head_begins w j a begun after b =
    let head : a ≡ loaded w j b.word = let is = b.is in cc in
    record { word = b.word; others = begun; is = ap (λ (x : Asked). x ∷ begun) head }

begun_begins : (w : Listed) (j : ℕ) (begun : List Asked) (step : Step) → IsBegun w j begun step → (begun ≡ []) ⊎ Begins w j begun
begun_begins w j [] step is = inl refl
begun_begins w j (a ∷ begun) step (performing answer more is) = inr (head_begins w j a begun _ (part_begins w j w.call _ is))
begun_begins w j (a ∷ begun) step (failing answer more code is) =
    ⊎_elim
    (λ (refuses : a ∷ (begun ++ step gives answer ∷ more) ≡ loads w j gives Refused ∷ []).
    absurd (no_step begun (step gives answer) more cc))
    (λ (b : Begins w j (a ∷ (begun ++ step gives answer ∷ more))). inr (head_begins w j a begun _ b))
    (failed_begins w j w.call _ code is)

cut_low : (w : Listed) (n k m : ℕ) (begun : List Asked) (step : Step) → IsCutAt w n k m begun step → k ≤ n
cut_low w n k m _ _ (in_entry begun step low is) = omega arith
cut_low w n k m _ _ (past_entries end tail closing polls step is closes) = end_low w n k m end tail polls is

module _ (constants : Constants) (n : ℕ) (state : State) (entries : List Entry) (run : IsRunFrom constants n state entries) where
  cut_in_order : CutCallsAreInOrder constants state entries
  cut_in_order call list cut of_run =
      let w : Listed = listed call cut.caller cut.regs cut.header in
      let of_rest : (entry : Entry) → Contains cut.rest entry → Contains entries entry =
      λ entry has. of_run entry (contains_tail cut.load entry cut.rest has) in
      let load : WordStood constants state entries cut.load cut.regs.rcx cut.header =
      word_stood constants n state entries run cut.load cut.caller.vmpl (record { 0 = cut.regs.rcx }) cut.header
      (of_run cut.load (contains_head cut.load cut.rest)) cut.loads in
      record {
        header = subst (λ (l : ℕ). WordStood constants state entries cut.load l cut.header) cut.on_list load;
        bounded =
            cut_low w (entries_of cut.header) (next_of cut.header + length cut.walk.parts) (length cut.walk.parts) cut.walk.begun cut.fault.step
            cut.walk.cut;
        fetched = λ p low.
            let b : BeginsAt w (next_of cut.header + p) (get_or cut.walk.parts p []) (joined cut.walk.parts) =
            parts_begin w (next_of cut.header) p (next_of cut.header + p) cut.walk.parts cut.walk.performed low refl in
            let at : Place (joined cut.walk.parts ++ cut.walk.begun) (loaded w (next_of cut.header + p) b.word) =
            before_more (joined cut.walk.parts) cut.walk.begun (loaded w (next_of cut.header + p) b.word) b.place in
            fetched_by constants n state entries run w list (next_of cut.header + p) cut.on_list cut.rest of_rest (get_or cut.walk.parts p []) b.word
            b.others b.is (subst (λ l. Place l (loaded w (next_of cut.header + p) b.word)) (sym cut.walk.made) at);
        begun = λ within.
            ⊎_elim (λ (none : cut.walk.begun ≡ []). inl none)
            (λ (b : Begins w (next_of cut.header + length cut.walk.parts) cut.walk.begun).
            let first : Place cut.walk.begun (loaded w (next_of cut.header + length cut.walk.parts) b.word) =
            record { front = []; back = b.others; is = b.is } in
            let at : Place (joined cut.walk.parts ++ cut.walk.begun) (loaded w (next_of cut.header + length cut.walk.parts) b.word) =
            behind (joined cut.walk.parts) cut.walk.begun (loaded w (next_of cut.header + length cut.walk.parts) b.word) first in
            inr (fetched_by constants n state entries run w list (next_of cut.header + length cut.walk.parts) cut.on_list cut.rest of_rest
            cut.walk.begun b.word b.others b.is
            (subst (λ l. Place l (loaded w (next_of cut.header + length cut.walk.parts) b.word)) (sym cut.walk.made) at)))
            (begun_begins w (next_of cut.header + length cut.walk.parts) cut.walk.begun cut.fault.step within);
      }

-- CALLS THAT GO ON

all_stopped : {call : ListCall} {list : ℕ} (calls : List (CallMade call list)) → AllStopped calls → AreStopped calls
all_stopped [] all = tt
all_stopped (made ∷ []) all = tt
all_stopped (made ∷ (other ∷ calls)) all = (all.0, all_stopped (other ∷ calls) all.1)

seen_front : (list : ℕ) (first second : List Asked) (header : ℕ) → AreSeen list (first ++ second) header → AreSeen list first header
seen_front list [] second header h = tt
seen_front list (asked ∷ first) second header h = (h.0, seen_front list first second _ h.1)

module _ (constants : Constants) (n : ℕ) (state : State) (entries : List Entry) (run : IsRunFrom constants n state entries) where
  once_cut : OnceCut constants state entries
  once_cut call list first others cut followed =
      let s : Split entries first.load =
      split entries first.load (followed.of_run first.load (contains_head first.load ((first.rest ++ entries_by others) ++ cut.load ∷ []))) in
      let loads_it : cut.load.step gives cut.load.answer ≡ LoadWord cut.caller.vmpl (record { 0 = list }) gives Word cut.header =
      subst (λ (l : ℕ). cut.load.step gives cut.load.answer ≡ LoadWord cut.caller.vmpl (record { 0 = l }) gives Word cut.header) cut.on_list cut.loads in
      let seen : AreSeen list (asked_by (entries_by (first ∷ others) ++ cut.load ∷ [])) (word_at list (state_after constants state s.front)) =
      followed_see constants n state entries run call list first others cut.load cut.caller.vmpl cut.header loads_it followed s in
      let seen_of : AreSeen list (asked_by (entries_by (first ∷ others))) (word_at list (state_after constants state s.front)) =
      seen_front list (asked_by (entries_by (first ∷ others))) (asked_by (cut.load ∷ [])) _
      (subst (λ l. AreSeen list l (word_at list (state_after constants state s.front))) (asked-append (entries_by (first ∷ others)) (cut.load ∷ [])) seen) in
      let once = (once_by call list (word_at list (state_after constants state s.front)) first others seen_of
      (all_stopped (first ∷ others) followed.stopped_before)).1 in
      let next = loads_go_on constants n state entries run call list first others cut.load cut.caller.vmpl cut.header loads_it followed in
      let last : next_of cut.header + length cut.walk.parts ≤ entries_of cut.header =
      cut_low (listed call cut.caller cut.regs cut.header) (entries_of cut.header) (next_of cut.header + length cut.walk.parts) (length cut.walk.parts)
      cut.walk.begun cut.fault.step cut.walk.cut in
      let at : next_of cut.header ≡ next_of first.header + length (indexes_by (first ∷ others)) = next.0 in
      let number : entries_of cut.header ≡ entries_of first.header = next.1 in
      let long : length (indexes_by (first ∷ others) ++ indexes_cut cut) ≡ length (indexes_by (first ∷ others)) + length cut.walk.parts =
      length-append (indexes_by (first ∷ others)) (indexes_cut cut)
      ∙ ap (λ (l : ℕ). length (indexes_by (first ∷ others)) + l) (length-range_with_len (next_of cut.header) (length cut.walk.parts)) in
      record {
        without_gap =
            ap (λ l. l ++ indexes_cut cut) once.without_gap
            ∙ range-append (next_of first.header) (length (indexes_by (first ∷ others))) (length cut.walk.parts) (next_of cut.header) (sym at)
            ∙ ap (λ (l : ℕ). range_with_len (next_of first.header) l) (sym long);
        bounded = omega arith;
      }

pub cut_in_runs : CutInRuns
cut_in_runs constants n state entries run =
    record { in_order = cut_in_order constants n state entries run; once = once_cut constants n state entries run }

-- THE LAST REQUEST OF A CORE

-- what was asked goes on behind the step that faulted
record GoesOn (now : Dialogue) (step : Step) : Type 0 where
  answer : Answer
  more : List Asked
  also : List Bool
  outcome : Do
  may : AreListed (step gives answer ∷ more)
  whole : IsWhole now (step gives answer ∷ more) also outcome

going_on : (now : Dialogue) (step : Step) → first_of now ≡ todo.Step step → GoesOn now step
going_on (ask s rest) step e =
    let same : s ≡ step = cc in
    let r : Completes (rest (usual s)) = completes (rest (usual s)) in
    record {
      answer = usual s;
      more = r.pairs;
      also = r.polls;
      outcome = r.outcome;
      may = (subst (λ (x : Step). IsTrue (is_listed x (usual s))) same (usual_listed s), r.listed);
      whole = (sym same, r.whole);
    }
going_on (poll rest) step e = cc
going_on (reply regs) step e = cc
going_on spurious step e = cc

-- one entry more before a call
cut_behind : (call : ListCall) (caller : Caller) (regs : Regs) (entry : Entry) (own : List Entry) → IsCutAs call caller regs own
    → IsCutAs call caller regs (entry ∷ own)
cut_behind call caller regs entry own (before_walk front fault is at) =
    before_walk (entry ∷ front) fault (ap (λ l. entry ∷ l) is) at
cut_behind call caller regs entry own (in_walk cut front is same) = in_walk cut (entry ∷ front) (ap (λ l. entry ∷ l) is) same

as_list : (call : ListCall) (caller : Caller) (regs : Regs) (pairs : List Asked) (polls : List Bool) (outcome : Do)
    → IsDecoded (Ok (as_call call)) caller regs pairs polls outcome → IsListCall call caller regs pairs polls outcome
as_list pvalidate caller regs pairs polls outcome h = h
as_list deposit caller regs pairs polls outcome h = h
as_list withdraw caller regs pairs polls outcome h = h

module _ (call : ListCall) (caller : Caller) (regs : Regs) (fault : Entry) (micros : ℕ) (faults : fault.answer ≡ Fault micros)
    (answer : Answer) (more : List Asked) where
  at_once : Contains (up_to_header caller regs) fault.step → IsCutAs call caller regs (fault ∷ [])
  at_once has = before_walk [] fault refl has

  pends : fault.step ≡ GuestPend caller.vmpl caller.caa → IsCutAs call caller regs (fault ∷ [])
  pends e =
      at_once
      (subst (λ (s : Step). Contains (up_to_header caller regs) s) (sym e)
      (contains_head (GuestPend caller.vmpl caller.caa) (takes_pending caller ∷ (loads_header caller regs ∷ []))))

  takes : (other : Answer) (rest : List Asked) → takes_pending caller gives other ∷ rest ≡ fault.step gives answer ∷ more
      → IsCutAs call caller regs (fault ∷ [])
  takes other rest e =
      let head : takes_pending caller gives other ≡ fault.step gives answer = cc in
      let is : takes_pending caller ≡ fault.step = ap (λ (a : Asked). a.step) head in
      at_once
      (subst (λ (s : Step). Contains (up_to_header caller regs) s) is
      (contains_tail (GuestPend caller.vmpl caller.caa) (takes_pending caller) (takes_pending caller ∷ (loads_header caller regs ∷ []))
      (contains_head (takes_pending caller) (loads_header caller regs ∷ []))))

  loads_it : (other : Answer) (rest : List Asked) → loads_header caller regs gives other ∷ rest ≡ fault.step gives answer ∷ more
      → IsCutAs call caller regs (fault ∷ [])
  loads_it other rest e =
      let head : loads_header caller regs gives other ≡ fault.step gives answer = cc in
      let is : loads_header caller regs ≡ fault.step = ap (λ (a : Asked). a.step) head in
      at_once
      (subst (λ (s : Step). Contains (up_to_header caller regs) s) is
      (contains_tail (GuestPend caller.vmpl caller.caa) (loads_header caller regs) (takes_pending caller ∷ (loads_header caller regs ∷ []))
      (contains_tail (takes_pending caller) (loads_header caller regs) (loads_header caller regs ∷ [])
      (contains_head (loads_header caller regs) []))))

  -- past a first step nothing followed
  only_one : (a : Asked) (entry : Entry) (front : List Entry) → a ∷ [] ≡ asked_by (entry ∷ front) ++ fault.step gives answer ∷ more → ⊥
  only_one a entry front e = no_step (asked_by front) (fault.step gives answer) more cc

  list_cut : (front : List Entry) (pairs : List Asked) (polls : List Bool) (outcome : Do) → IsListCall call caller regs pairs polls outcome
      → pairs ≡ asked_by front ++ fault.step gives answer ∷ more → AreListed (asked_by front) → IsCutAs call caller regs (front ++ fault ∷ [])
  list_cut front _ _ _ (bad_list code refusal) e may = absurd (no_step (asked_by front) (fault.step gives answer) more e)
  list_cut [] _ _ _ (no_header refusal) e may = loads_it Refused [] e
  list_cut (entry ∷ front) _ _ _ (no_header refusal) e may = absurd (only_one _ entry front e)
  list_cut [] _ _ _ (bad_header header code refusal unusable) e may = loads_it (Word header) [] e
  list_cut (entry ∷ front) _ _ _ (bad_header header code refusal unusable) e may = absurd (only_one _ entry front e)
  list_cut [] _ _ _ (walked header pairs polls outcome refusal usable walk) e may = loads_it (Word header) pairs e
  list_cut (load ∷ rest) _ _ _ (walked header pairs polls outcome refusal usable walk) e may =
      let first : load.step gives load.answer ≡ loads_header caller regs gives Word header = cc in
      let others : pairs ≡ asked_by rest ++ fault.step gives answer ∷ more = cc in
      let cut : CallCut call regs.rcx = record {
        caller = caller;
        regs = regs;
        header = header;
        load = load;
        rest = rest;
        fault = fault;
        micros = micros;
        on_list = refl;
        loads = first;
        walk = walk_cut (listed call caller regs header) (entries_of header) pairs polls outcome walk (asked_by rest) fault.step answer more others;
        faults = faults;
        listed_answers = may.1;
      } in
      in_walk cut [] refl refl

  exit_cut : (front : List Entry) (pairs : List Asked) (polls : List Bool) (outcome : Do) → IsExit caller regs pairs polls outcome
      → pairs ≡ asked_by front ++ fault.step gives answer ∷ more → decoded regs ≡ Ok (as_call call) → AreListed (asked_by front)
      → IsCutAs call caller regs (front ++ fault ∷ [])
  exit_cut [] _ _ _ not_taken e is may = takes Refused [] e
  exit_cut (entry ∷ front) _ _ _ not_taken e is may = absurd (only_one _ entry front e)
  exit_cut [] _ _ _ (not_pending word clear) e is may = takes (Word word) [] e
  exit_cut (entry ∷ front) _ _ _ (not_pending word clear) e is may = absurd (only_one _ entry front e)
  exit_cut [] _ _ _ (called word pairs polls outcome set h) e is may = takes (Word word) pairs e
  exit_cut (entry ∷ front) _ _ _ (called word pairs polls outcome set h) e is may =
      let others : pairs ≡ asked_by front ++ fault.step gives answer ∷ more = cc in
      cut_behind call caller regs entry (front ++ fault ∷ [])
      (list_cut front pairs polls outcome
      (as_list call caller regs pairs polls outcome (subst (λ (d : Result Call Code). IsDecoded d caller regs pairs polls outcome) is h))
      others may.1)

  sequence_cut : (pend : Bool) (front : List Entry) (pairs : List Asked) (polls : List Bool) (outcome : Do)
      → IsSequence pend caller regs pairs polls outcome → pairs ≡ asked_by front ++ fault.step gives answer ∷ more
      → decoded regs ≡ Ok (as_call call) → AreListed (asked_by front) → IsCutAs call caller regs (front ++ fault ∷ [])
  sequence_cut false front pairs polls outcome h e is may = exit_cut front pairs polls outcome h e is may
  sequence_cut true [] pairs polls outcome h e is may =
      let both : GuestPend caller.vmpl caller.caa gives h.0 ∷ h.1 ≡ fault.step gives answer ∷ more = sym h.2 ∙ e in
      let head : GuestPend caller.vmpl caller.caa gives h.0 ≡ fault.step gives answer = cc in
      pends (sym (ap (λ (a : Asked). a.step) head))
  sequence_cut true (entry ∷ front) pairs polls outcome h e is may =
      let both : GuestPend caller.vmpl caller.caa gives h.0 ∷ h.1 ≡ asked_by (entry ∷ front) ++ fault.step gives answer ∷ more = sym h.2 ∙ e in
      let others : h.1 ≡ asked_by front ++ fault.step gives answer ∷ more = cc in
      cut_behind call caller regs entry (front ++ fault ∷ []) (exit_cut front h.1 polls outcome h.3 others is may.1)

-- the entries of what a core made
record Parts (own : List Entry) (first second : List Made) : Type 0 where
  front : List Entry
  back : List Entry
  is : own ≡ front ++ back
  of_first : map made_of front ≡ first
  of_second : map made_of back ≡ second

parts_of : (own : List Entry) (first second : List Made) → map made_of own ≡ first ++ second → Parts own first second
parts_of own [] second e = record { front = []; back = own; is = refl; of_first = refl; of_second = e }
parts_of [] (m ∷ first) second e = cc
parts_of (entry ∷ own) (m ∷ first) second e =
    let head : made_of entry ≡ m = cc in
    let rest : Parts own first second = parts_of own first second cc in
    record {
      front = entry ∷ rest.front;
      back = rest.back;
      is = ap (λ l. entry ∷ l) rest.is;
      of_first = ap (λ l. made_of entry ∷ l) rest.of_first ∙ ap (λ (x : Made). x ∷ first) head;
      of_second = rest.of_second;
    }

asked_pairs : (own : List Entry) → asked_by own ≡ pairs_of (map made_of own)
asked_pairs [] = refl
asked_pairs (entry ∷ own) = ap (λ l. entry.step gives entry.answer ∷ l) (asked_pairs own)

record OneEntry (own : List Entry) (m : Made) : Type 0 where
  entry : Entry
  is : own ≡ entry ∷ []
  made : made_of entry ≡ m

one_entry : (own : List Entry) (m : Made) → map made_of own ≡ m ∷ [] → OneEntry own m
one_entry [] m e = cc
one_entry (entry ∷ []) m e = record { entry = entry; is = refl; made = cc }
one_entry (entry ∷ (other ∷ own)) m e = cc

cut_as : (pend : Bool) (caller : Caller) (regs : Regs) (number : ℕ) (own : List Entry) (events : List Event) (ticket : ℕ)
    → IsCallCut pend caller regs number (map made_of own) events ticket
    → (call : ListCall) → decoded regs ≡ Ok (as_call call) → IsCutAs call caller regs own
cut_as pend caller regs number own events ticket is call decodes =
    let m : Made = record { ticket = ticket; step = is.step; answer = Fault is.performed } in
    let parts : Parts own is.before (m ∷ []) = parts_of own is.before (m ∷ []) is.made_is in
    let last : OneEntry parts.back m = one_entry parts.back m parts.of_second in
    let front_is : pairs_of is.before ≡ asked_by parts.front = sym (asked_pairs parts.front ∙ ap pairs_of parts.of_first) in
    let step_is : is.step ≡ last.entry.step = sym (ap (λ (x : Made). x.step) last.made) in
    let faults : last.entry.answer ≡ Fault is.performed = ap (λ (x : Made). x.answer) last.made in
    let on : GoesOn is.now is.step = going_on is.now is.step is.asks in
    let whole : IsCall pend caller regs (pairs_of is.before ++ is.step gives on.answer ∷ on.more) (is.polls ++ on.also) on.outcome =
    call_sound pend caller regs (pairs_of is.before ++ is.step gives on.answer ∷ on.more) (is.polls ++ on.also) on.outcome
    (listed_both (pairs_of is.before) (is.step gives on.answer ∷ on.more) is.listed on.may)
    (prefix_of (whole_call pend caller regs) is.now (pairs_of is.before) (is.step gives on.answer ∷ on.more) is.polls on.also on.outcome is.leads on.whole) in
    let same : pairs_of is.before ++ is.step gives on.answer ∷ on.more ≡ asked_by parts.front ++ last.entry.step gives on.answer ∷ on.more =
    ap (λ l. l ++ is.step gives on.answer ∷ on.more) front_is ∙ ap (λ (s : Step). asked_by parts.front ++ s gives on.answer ∷ on.more) step_is in
    subst (λ (l : List Entry). IsCutAs call caller regs l) (sym (parts.is ∙ ap (λ l. parts.front ++ l) last.is))
    (sequence_cut call caller regs last.entry is.performed faults on.answer on.more pend parts.front
    (pairs_of is.before ++ is.step gives on.answer ∷ on.more) (is.polls ++ on.also) on.outcome whole.sequence same decodes
    (subst AreListed front_is is.listed))

ends_in_call : (entries : List Entry) (core ticket : ℕ) (back : List Entry) (pend : Bool) (caller : Caller) (regs : Regs)
    (number : ℕ) (events : List Event) (front : List Entry)
    → of_core core entries ≡ front ++ back → IsCallCut pend caller regs number (map made_of back) events ticket → EndsInCall entries core ticket
ends_in_call entries core ticket back pend caller regs number events front parts is = record {
  before = front;
  own = back;
  last = parts;
  pend = pend;
  caller = caller;
  regs = regs;
  number = number;
  events = events;
  cut_off = is;
  over_list = cut_as pend caller regs number back events ticket is;
}

request_ends : (entries : List Entry) (core ticket : ℕ) (caller : Caller) (request : Request) (steps : List Made) (events : List Event)
    → IsCutOff caller request steps events ticket → (front back : List Entry) → of_core core entries ≡ front ++ back → map made_of back ≡ steps
    → EndsInCall entries core ticket
request_ends entries core ticket caller (requests.Call regs number) steps events is front back parts same =
    ends_in_call entries core ticket back true caller regs number events front parts
    (subst (λ (l : List Made). IsCallCut true caller regs number l events ticket) (sym same) is)
request_ends entries core ticket caller (requests.Exit regs number) steps events is front back parts same =
    ends_in_call entries core ticket back false caller regs number events front parts
    (subst (λ (l : List Made). IsCallCut false caller regs number l events ticket) (sym same) is)
request_ends entries core ticket caller (requests.Write vmpl gpa word) steps events is front back parts same = absurd is
request_ends entries core ticket caller (requests.Read vmpl gpa) steps events is front back parts same = absurd is
request_ends entries core ticket caller (requests.Adjust vmpl page target mask) steps events is front back parts same = absurd is
request_ends entries core ticket caller (requests.Share page) steps events is front back parts same = absurd is
request_ends entries core ticket caller (requests.Assign page) steps events is front back parts same = absurd is

pub core_cut : (entries : List Entry) (core ticket : ℕ) (first : Made) (caller : Caller) (script : List Request) (made : List Made) (events : List Event)
    (outcomes : List Outcome) (end : CoreEnd)
    → IsCoreRun caller script made events outcomes end → end ≡ ends.Faulted ticket → made_by core entries ≡ first ∷ made → EndsInCall entries core ticket
core_cut entries core ticket first caller script _ _ _ _ (done made events outcomes now due at answer p l) e same = cc
core_cut entries core ticket first caller script _ _ _ _ (faulted before after request made steps events runs asked outcomes now due at is p r c) e same =
    let here : at ≡ ticket = cc in
    let parts : Parts (of_core core entries) (first ∷ made) steps = parts_of (of_core core entries) (first ∷ made) steps same in
    request_ends entries core ticket now request steps asked (subst (λ (t : ℕ). IsCutOff now request steps asked t) here c) parts.front parts.back
    parts.is parts.of_second
core_cut entries core ticket first caller script _ _ _ _ (host before after request made events outcomes now got is p wrong) e same = cc

core_cut_by : (ran : Bool) (image : Image) (scripts : List (List Request)) (entries : List Entry) (core ticket : ℕ) (run : CoreRun)
    → IsCore ran image core (script_of scripts core) (made_by core entries) run → run.end ≡ ends.Faulted ticket → EndsInCall entries run.core ticket
core_cut_by true image scripts entries core ticket run is e =
    subst (λ (c : ℕ). EndsInCall entries c ticket) (sym is.0)
    (core_cut entries core ticket _ _ (script_of scripts core) is.1.rest is.1.events run.outcomes run.end is.1.run e is.1.begins)
core_cut_by false image scripts entries core ticket run is e = let never : ends.Unstarted ≡ ends.Faulted ticket = sym is.2 ∙ e in cc

cores_cut : (image : Image) (scripts : List (List Request)) (entries : List Entry) (ran : List ℕ) (core : ℕ) (lines : List CoreLine) (runs : List CoreRun)
    → AreCores image scripts entries ran core lines runs → (run : CoreRun) (ticket : ℕ) → Contains runs run → run.end ≡ ends.Faulted ticket
    → EndsInCall entries run.core ticket
cores_cut image scripts entries ran core [] [] is run ticket has e = absurd (let low = has.1 in omega arith)
cores_cut image scripts entries ran core [] (one ∷ runs) is run ticket has e = absurd is
cores_cut image scripts entries ran core (line ∷ lines) [] is run ticket has e = absurd is
cores_cut image scripts entries ran core (line ∷ lines) (one ∷ runs) is run ticket has e =
    ⊎_elim
    (λ (same : one ≡ run).
    subst (λ (r : CoreRun). r.end ≡ ends.Faulted ticket → EndsInCall entries r.core ticket) same
    (core_cut_by (is_among core ran) image scripts entries core ticket one is.0) e)
    (λ (rest : Contains runs run). cores_cut image scripts entries ran (core + 1) lines runs is.1 run ticket rest e)
    (contains_cases one run runs has)

pub faults_end_in_calls : FaultsEndInCalls
faults_end_in_calls image scripts entries cores is run ticket has e =
    cores_cut image scripts entries is.ran 0 image.cores cores is.each run ticket has e
