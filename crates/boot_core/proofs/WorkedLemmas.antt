-- The worked boots: a boot of one batch, whose end is computed from the page that comes back.
use Rattle.std.proofs.Common.{◌≡◌, ℕ, Option, None, Some, Result, Ok, Err, List, [], ◌∷◌, ◌++◌, refl, sym, subst, append-nil, arith}
use Rattle.std.specs.Prelude.{MatchResult}
use Rattle.svsm_types.specs.Hardware.{clear_faults, validated_pages, pvalidate_answer, rmpadjust_faults, adjusted_pages}
use Rattle.svsm_types.specs.declared.address.Page.{Page}
use Rattle.svsm_types.specs.declared.image.HostLine.{HostLine}
use Rattle.svsm_types.specs.declared.image.HostLine.TheVariants as Line
use Rattle.svsm_steps.specs.Announced.{ap_error}
use Rattle.ghcb_page.specs.Bytes.{with_bytes, u16_at, u64_at}
use Rattle.ghcb_page.specs.Fields.{exit_bitmap}
use Rattle.psc_batch.specs.declared.error.PscError.{PscError}
use Rattle.psc_batch.specs.declared.error.PscError.TheVariants.{Said, Changed}
use Rattle.psc_batch.specs.Host.{HostEvent, asked, exited, Leads}
use Rattle.psc_batch.specs.Exchange.{sent_page, ending}
use Rattle.boot_core.specs.declared.error.BootError.{BootError}
use Rattle.boot_core.specs.declared.error.BootError.TheVariants.{Msr, Psc}
use Rattle.boot_core.specs.Asks.{Terminates}
use Rattle.boot_core.specs.Boots.{AcceptsEnd, BatchesEnd, BootEnds, blank_page}
use Rattle.boot_core.specs.Faults.{image_faults}
use Rattle.boot_core.specs.Sim.{Sim, SimAnswers, SimReturns, sim_answer, given_back, host_after, host_of}
use Rattle.boot_core.specs.Worked.{with_lines, WorkedBoots}
use Rattle.boot_core.proofs.WayLemmas.{one_way}

-- THE ONE EXIT

-- the entry of the image, and the page as it is sent
abbrev words : List ℕ
words = 0x10000000010000 ∷ []

abbrev sent : List ℕ
sent = sent_page 0x5800 words 0 blank_page

-- the page as it comes back
abbrev back : List HostLine → List ℕ
back lines = given_back (host_of (with_lines lines)) sent

-- no operation is due to fault
no_faults : (lines : List HostLine) → image_faults (with_lines lines) ≡ None ∷ []
unfolding clear_faults validated_pages pvalidate_answer rmpadjust_faults adjusted_pages
no_faults lines = refl

-- AN END

-- nothing is said behind the one batch
closes : (page : List ℕ) (result : Result (Unit {0}) BootError)
    → MatchResult result (λ _. BatchesEnd 0x5800 [] [] page [] result) (λ error. (◌≡◌ {A = List HostEvent} [] []) × (result ≡ Err error))
closes page (Ok tt) = (refl, refl)
closes page (Err error) = (refl, refl)

abbrev first : List HostEvent
first = asked 0x002 0x0002000133000001 ∷ (asked 0x080 0x23081 ∷ (asked 0x20000000005014 0x15 ∷ (asked 0x5012 0x5013 ∷ [])))

-- a host that answers right, up to the end of the exchange
ends_by : (lines : List HostLine) (answer : Result (Unit {0}) PscError) (rest : List HostEvent) (end : Sim) (result : Result (Unit {0}) BootError)
    → 0x0002000133000001 ≡ sim_answer lines 0x002 → 0x23081 ≡ sim_answer lines 0x080 → 0x15 ≡ sim_answer lines 0x20000000005014
    → 0x5013 ≡ sim_answer lines 0x5012 → ap_error lines 0 ≡ 0 → ending words 0 0 (back lines) ≡ Some answer
    → MatchResult answer (λ _. AcceptsEnd None rest result) (λ error. Terminates 0 rest × (result ≡ Err (Psc error)))
    → Leads SimAnswers SimReturns (host_after (host_of (with_lines lines)) sent) rest end
    → BootEnds (with_lines lines) result
ends_by lines answer rest end result info features share ghcb calm is then leads =
    let host : Sim = host_of (with_lines lines) in
    record {
      events = first ++ exited sent (back lines) ∷ rest;
      end = end;
      leads = (
        host,
        (info, refl),
        (
          host,
          (features, refl),
          (
            host,
            (share, refl),
            (
              host,
              (ghcb, refl),
              (host_after host sent, (refl, refl, λ creates. omega (arith, calm)), leads),
            ),
          ),
        ),
      );
      said = record {
        first = first;
        second = exited sent (back lines) ∷ rest;
        answer = Ok tt;
        said = refl;
        asks = (refl, (refl, (refl, (refl, (refl, refl)))));
        then = subst (λ (faults : List (Option Page)). BatchesEnd 0x5800 (words ∷ []) faults blank_page (exited sent (back lines) ∷ rest) result)
            (sym (no_faults lines)) (
              exited sent (back lines) ∷ rest,
              [],
              back lines,
              result,
              sym (append-nil (exited sent (back lines) ∷ rest)),
              record {
                exchange = exited sent (back lines) ∷ [];
                rest = rest;
                answer = answer;
                said = refl;
                exchanged = record { sends = (refl, tt); ends = is; leaves = refl };
                then = then;
              },
              closes (back lines) result,
            );
      };
    }

-- BY COMPUTATION

accepted : ending words 0 0 (back []) ≡ Some (Ok tt)
unfolding sent_page blank_page with_bytes exit_bitmap u16_at u64_at
accepted = refl

past : ending words 0 0 (back (Line.Change 0 1 0 ∷ [])) ≡ Some (Ok tt)
unfolding sent_page blank_page with_bytes exit_bitmap u16_at u64_at
past = refl

altered : ending words 0 0 (back (Line.Change 0 0 0 ∷ [])) ≡ Some (Err (Changed 0 0x10000000010000 0))
unfolding sent_page blank_page with_bytes exit_bitmap u16_at u64_at
altered = refl

told : ending words 0 0 (back (Line.Exit 0 0 5 ∷ [])) ≡ Some (Err (Said 0 5))
unfolding sent_page blank_page with_bytes exit_bitmap u16_at u64_at
told = refl

-- WHERE AN ANSWER IS WRONG

abbrev bad : HostLine
bad = Line.Info 0x0003000333000001

refused : BootEnds (with_lines (bad ∷ [])) (Err (Msr 0x2 0x0003000333000001))
refused =
    let host : Sim = host_of (with_lines (bad ∷ [])) in
    record {
      events = asked 0x2 0x0003000333000001 ∷ (asked 0x10100 0 ∷ []);
      end = host;
      leads = (host, (refl, refl), (host, (refl, refl), refl));
      said = record {
        first = asked 0x2 0x0003000333000001 ∷ (asked 0x10100 0 ∷ []);
        second = [];
        answer = Err (Msr 0x2 0x0003000333000001);
        said = refl;
        asks = (refl, ((refl, refl), refl));
        then = (refl, refl);
      };
    }

pub worked_boots : WorkedBoots
worked_boots =
    let behind : List HostLine → Sim = λ lines. host_after (host_of (with_lines lines)) sent in
    let ended : List HostEvent = asked 0x100 0 ∷ [] in
    record {
      accepts = ends_by [] (Ok tt) [] (behind []) (Ok tt) refl refl refl refl refl accepted (refl, refl) refl;
      past_the_end = ends_by (Line.Change 0 1 0 ∷ []) (Ok tt) [] (behind (Line.Change 0 1 0 ∷ [])) (Ok tt) refl refl refl refl refl past (refl, refl) refl;
      changed = ends_by (Line.Change 0 0 0 ∷ []) (Err (Changed 0 0x10000000010000 0)) ended (behind (Line.Change 0 0 0 ∷ []))
          (Err (Psc (Changed 0 0x10000000010000 0))) refl refl refl refl refl altered ((refl, refl), refl) (behind (Line.Change 0 0 0 ∷ []), (refl, refl), refl);
      said = ends_by (Line.Exit 0 0 5 ∷ []) (Err (Said 0 5)) ended (behind (Line.Exit 0 0 5 ∷ []))
          (Err (Psc (Said 0 5))) refl refl refl refl refl told ((refl, refl), refl) (behind (Line.Exit 0 0 5 ∷ []), (refl, refl), refl);
      version = refused;
      never = λ boots. let same = one_way (with_lines (bad ∷ [])) (Ok tt) (Err (Msr 0x2 0x0003000333000001)) boots refused in absurd cc;
    }
