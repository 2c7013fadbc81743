-- A core between two requests.
use Rattle.std.proofs.Common.{◌≡◌, ℕ, ◌+◌, ◌<◌, ◌≤◌, Bool, true, List, [], ◌∷◌, ◌++◌, length, drop, get_or, drop-cons, add-one, refl, sym, ◌∙◌, ap, subst, Some, arith}
use Rattle.std.proofs.lemmas.List.{drop_all}
use Rattle.svsm_types.specs.declared.address.Gpa.{Gpa}
use Rattle.svsm_types.specs.declared.image.HostLine.{HostLine}
use Rattle.svsm_types.specs.declared.request.Request.{Request}
use Rattle.svsm_steps.specs.declared.step.Step.TheVariants.{Leave}
use Rattle.svsm_steps.specs.declared.answer.Answer.{Answer}
use Rattle.svsm_steps.specs.declared.entry.Entry.{Entry}
use Rattle.svsm_steps.specs.declared.call.Caller.{Caller}
use Rattle.svsm_steps.specs.declared.outcome.Outcome.{Outcome}
use Rattle.svsm_steps.specs.declared.outcome.CoreEnd.{CoreEnd}
use Rattle.svsm_steps.specs.declared.outcome.CoreEnd.TheVariants as ends
use Rattle.svsm_calls.specs.CoreRun.{is_call}
use Rattle.svsm_calls.specs.World.{Scripted, fresh_world}
use Rattle.run_trees.specs.Tree.{Tree, ended, request_tree, requests_tree}
use Rattle.run_trees.specs.Laws.{script_tree}
use Rattle.run_order.specs.declared.reader.Stop.{Stop}
use Rattle.run_order.specs.declared.request.PieceEnd.TheVariants as pieces
use Rattle.run_order.specs.declared.core_read.Asked.TheVariants as asks
use Rattle.run_order.specs.declared.core_read.CoreRead.TheVariants as reads
use Rattle.run_order.specs.Finds.{made_before, StopsAt, GoesOn}
use Rattle.run_order.specs.Reads.{Leads, Stops, RequestReads, AsksRun, CoreReads}
use Rattle.run_order.proofs.FindLemmas.{goes_none, goes_both}
use Rattle.run_order.proofs.LeadLemmas.{lead_same, lead_on, lead_step, stops_on, stops_here}

-- a core that has read this far, with these requests left
pub record Stands (core : ℕ) (entries : List Entry) (lines : List HostLine) (caller : Caller) (script left : List Request) (count old at : ℕ)
    (now : Caller) (due : Bool) (number : ℕ) (outcomes : List Outcome) : Type 0 where
  pub world : Scripted
  pub runs : world.runs ≡ number
  pub few : number ≤ count
  pub regions : now.regions ≡ caller.regions
  pub apic : now.apic ≡ caller.apic
  pub goes : GoesOn core entries old at
  pub leads : Leads core entries old at (script_tree lines caller script) (requests_tree lines left now due world outcomes)

pub stands_first : (core : ℕ) (entries : List Entry) (lines : List HostLine) (caller : Caller) (script : List Request) (at : ℕ)
    → Stands core entries lines caller script script 0 at at caller true 0 []
stands_first core entries lines caller script at = record {
  world = fresh_world;
  runs = refl;
  few = omega arith;
  regions = refl;
  apic = refl;
  goes = goes_none core entries at;
  leads = λ root h. h;
}

module _ (core : ℕ) (entries : List Entry) (lines : List HostLine) (caller : Caller) (script : List Request) (count old at : ℕ)
    (now : Caller) (due : Bool) (number : ℕ) (outcomes : List Outcome) where
  -- the requests that are left begin with this one
  pub opened : (d : Request) → count < length script → Stands core entries lines caller script (drop count script) count old at now due number outcomes
      → Stands core entries lines caller script (get_or script count d ∷ drop (count + 1) script) count old at now due number outcomes
  opened d low is = subst (λ (left : List Request). Stands core entries lines caller script left count old at now due number outcomes)
      (rw (add-one, drop-cons script count d low) refl) is

  abbrev pub rest_of_requests : List Request → Caller → Bool → Scripted → Outcome → Tree
  rest_of_requests left after then_due world outcome = requests_tree lines left after then_due world (outcomes ++ outcome ∷ [])

  -- the run request ends the core
  pub stands_wrong : (d : Request) (end : CoreEnd) → count < length script → Stands core entries lines caller script (drop count script) count old at now due number outcomes
      → AsksRun lines due now number (asks.Wrong end) → CoreReads core entries lines caller script old (reads.Ended outcomes end) at
  stands_wrong d end low is wrong =
      let ready = opened d low is in (
        ready.goes,
        lead_on core entries old at at _ _ _ ready.leads (lead_same core entries at _ _
            (wrong ready.world outcomes (λ world. request_tree now world outcomes (get_or script count d) (rest_of_requests (drop (count + 1) script))) ready.runs)),
      )

  module _ (next : ℕ) (asked : AsksRun lines due now number (asks.Goes next)) (new : ℕ) (d : Request) (low : count < length script)
      (is : Stands core entries lines caller script (drop count script) count old at now due number outcomes) where
    abbrev pub left : List Request
    left = drop (count + 1) script

    abbrev pub request : Request
    request = get_or script count d

    after_run : (world : Scripted) × (world.runs ≡ next)
        × Leads core entries old at (script_tree lines caller script) (request_tree now world outcomes request (rest_of_requests left))
    after_run =
        let ready = opened d low is in
        let after = asked.1 ready.world outcomes (λ world. request_tree now world outcomes request (rest_of_requests left)) ready.runs in
        (after.0, after.1, lead_on core entries old at at _ _ _ ready.leads (lead_same core entries at _ _ after.2))

    -- the request is read
    pub stands_more : (area : Gpa) (outcome : Outcome) (then_due : Bool) → then_due ≡ is_call request → RequestReads core entries now request at (pieces.Done area outcome) new
        → Stands core entries lines caller script left (count + 1) old new (record now { caa = area }) then_due next (outcomes ++ outcome ∷ [])
    stands_more area outcome then_due same done =
        let ran = after_run in
        let more = done.1 ran.0 outcomes (rest_of_requests left) in
        record {
          world = more.0;
          runs = more.1 ∙ ran.1;
          few = omega (arith, asked.0, is.few);
          regions = is.regions;
          apic = is.apic;
          goes = goes_both core entries old at new is.goes done.0;
          leads = subst (λ (b : Bool). Leads core entries old new (script_tree lines caller script) (requests_tree lines left (record now { caa = area }) b more.0 (outcomes ++ outcome ∷ []))) (sym same)
              (lead_on core entries old at new _ _ _ ran.2 more.2);
        }

    -- its step faulted
    pub stands_faulted : (ticket : ℕ) → RequestReads core entries now request at (pieces.Faulted ticket) new
        → CoreReads core entries lines caller script old (reads.Ended outcomes (ends.Faulted ticket)) new
    stands_faulted ticket cut =
        (goes_both core entries old at new is.goes cut.0, lead_on core entries old at new _ _ _ after_run.2 (cut.1 after_run.0 outcomes (rest_of_requests left)))

    -- it stops
    pub stands_stops : (stop : Stop) → RequestReads core entries now request at (pieces.Stopped stop) new
        → CoreReads core entries lines caller script old (reads.Stopped stop) new
    stands_stops stop stops = stops_on core entries old at new _ _ stop after_run.2 (stops after_run.0 outcomes (rest_of_requests left))

  -- behind the last request
  last : length script ≤ count → Stands core entries lines caller script (drop count script) count old at now due number outcomes
      → Stands core entries lines caller script [] count old at now due number outcomes
  last past is = subst (λ (left : List Request). Stands core entries lines caller script left count old at now due number outcomes) (drop_all count script past) is

  -- it leaves
  pub stands_leaves : (new ticket : ℕ) (answer : Answer) → length script ≤ count
      → Stands core entries lines caller script (drop count script) count old at now due number outcomes → GoesOn core entries at new
      → made_before core entries new ≡ made_before core entries at ++ record { ticket = ticket; step = Leave caller.apic; answer = answer } ∷ []
      → CoreReads core entries lines caller script old (reads.Ended outcomes ends.Done) new
  stands_leaves new ticket answer past is goes made =
      let end = last past is in (
        goes_both core entries old at new is.goes goes,
        lead_on core entries old at new _ _ _ end.leads
            (lead_step core entries at new _ (ended outcomes ends.Done) ticket (Leave caller.apic) answer made (ap (λ (n : ℕ). Some (Leave n)) end.apic) refl),
      )

  -- it would leave, and stops
  pub stands_last : (stop : Stop) (new : ℕ) → length script ≤ count
      → Stands core entries lines caller script (drop count script) count old at now due number outcomes → new ≡ at → StopsAt core entries at (Leave caller.apic) stop
      → CoreReads core entries lines caller script old (reads.Stopped stop) new
  stands_last stop new past is same stops =
      let end = last past is in
      subst (λ (n : ℕ). Stops core entries old n (script_tree lines caller script) stop) (sym same)
      (stops_on core entries old at at _ _ stop end.leads
      (stops_here core entries at _ (Leave caller.apic) stop (ap (λ (n : ℕ). Some (Leave n)) end.apic) stops))
