-- A page-state exchange with the host (AMD 56421, 'SNP Page State Change'): the module sends its entries in the shared buffer of the
-- GHCB page, the host carries out some and says how far it came, and the module sends again from there until all are done.
use Rattle.std.specs.Prelude.{◌≡◌, ℕ, ◌+◌, ◌-◌, ◌*◌, ◌/◌, ◌==◌, nat_lt, not, if◌then◌else◌, ⊤, Option, None, Some, Result, Ok, Err, List, [], ◌∷◌, length}
use Rattle.ghcb_page.specs.Bytes.{with_bytes, with_u16, with_u64, u16_at, u64_at}
use Rattle.ghcb_page.specs.Fields.{begun_exit, info1_of, info2_of, is_quiet}
use Rattle.psc_batch.specs.declared.error.PscError.{PscError}
use Rattle.psc_batch.specs.declared.error.PscError.TheVariants.{Said, End, Back, Past, Changed, Stalled}
use Rattle.psc_batch.specs.Host.{HostEvent, asked, exited}

-- THE SHARED BUFFER: cur_entry, the index of the next entry; end_entry, the index of the last one; 4 bytes that are reserved; the entries

-- the header's current entry (VMGEXIT page-state change, GHCB 2.0)
abbrev pub cur_of : List ℕ → ℕ
cur_of page = u16_at 0x800 page

-- the header's end entry
abbrev pub end_of : List ℕ → ℕ
end_of page = u16_at 0x802 page

-- an entry of the list by its index
abbrev pub entry_of : ℕ → List ℕ → ℕ
entry_of index page = u64_at (0x808 + 8 * index) page

-- entries written one after another, from an offset on
abbrev pub with_entries : ℕ → List ℕ → List ℕ → List ℕ
with_entries at [] page = page
with_entries at (entry ∷ entries) page = with_entries (at + 8) entries (with_u64 at entry page)

-- the index of the last entry
abbrev pub end_index : List ℕ → ℕ
end_index entries = length entries - 1

-- the page as it is sent: the fields of the exit, whose scratch area is the buffer, and the buffer from the index `cur` on; all else stays
unfoldable pub sent_page : ℕ → List ℕ → ℕ → List ℕ → List ℕ
sent_page buffer entries cur page =
    begun_exit 0x80000010 0 0 buffer (with_entries 0x808 entries
    (with_bytes 0x804 (0 ∷ (0 ∷ (0 ∷ (0 ∷ [])))) (with_u16 0x802 (end_index entries) (with_u16 0x800 cur page))))

-- WHAT AN EXIT MEANS

-- the first entry that came back changed: in its bits 63:12, since the host may write bits 11:0, its current page
abbrev pub change_from : ℕ → List ℕ → List ℕ → Option PscError
change_from index [] got = None
change_from index (entry ∷ entries) got =
    if entry / 4096 == entry_of index got / 4096
    then change_from (index + 1) entries got
    else Some (Changed index entry (entry_of index got))

-- what refuses a page that came back where `cur` was sent; these tests stand in this order
abbrev pub exchange_refusal : List ℕ → ℕ → List ℕ → Option PscError
exchange_refusal entries cur got =
    if not (is_quiet got) then Some (Said (info1_of got) (info2_of got))
    else (if not (end_of got == end_index entries) then Some (End (end_index entries) (end_of got))
    else (if nat_lt (cur_of got) cur then Some (Back cur (cur_of got))
    else (if nat_lt (end_index entries + 1) (cur_of got) then Some (Past (end_index entries) (cur_of got))
    else change_from 0 entries got)))

-- how many exits in a row came back with the index that they sent; an advance begins anew
abbrev pub stalls_after : ℕ → ℕ → List ℕ → ℕ
stalls_after cur stalls got = if cur_of got == cur then stalls + 1 else 0

-- after a page without refusal: all is done, or this was the 64th such exit, or another exit follows
abbrev pub progress : ℕ → ℕ → ℕ → ℕ → Option (Result (Unit {0}) PscError)
progress end cur stalls back =
    if back == end + 1 then Some (Ok tt)
    else (if stalls == 64 then Some (Err (Stalled cur)) else None)

-- a refusal, where there is one, before what else is told
abbrev pub refused_or : Option PscError → Option (Result (Unit {0}) PscError) → Option (Result (Unit {0}) PscError)
refused_or (Some error) other = Some (Err error)
refused_or None other = other

-- how an exchange ends with this exit, where `stalls` exits before it stalled in a row; None where it goes on
abbrev pub ending : List ℕ → ℕ → ℕ → List ℕ → Option (Result (Unit {0}) PscError)
ending entries cur stalls got =
    refused_or (exchange_refusal entries cur got) (progress (end_index entries) cur (stalls_after cur stalls got) (cur_of got))

-- THE EXCHANGE

-- all exits send the same entries; the first one sends `cur`, and each later one the index that came back before it
abbrev pub Sends : ℕ → List ℕ → ℕ → List ℕ → List HostEvent → Type 0
Sends buffer entries cur page [] = ⊤
Sends buffer entries cur page (asked sent got ∷ events) = ⊥
Sends buffer entries cur page (exited sent got ∷ events) =
    (sent ≡ sent_page buffer entries cur page) × Sends buffer entries (cur_of got) got events

-- each exit but the last goes on, and the last one ends the exchange with this result
abbrev pub Ends : List ℕ → ℕ → ℕ → List HostEvent → Result (Unit {0}) PscError → Type 0
Ends entries cur stalls [] result = ⊥
Ends entries cur stalls (asked sent got ∷ events) result = ⊥
Ends entries cur stalls (exited sent got ∷ []) result = ending entries cur stalls got ≡ Some result
Ends entries cur stalls (exited sent got ∷ (event ∷ events)) result =
    (ending entries cur stalls got ≡ None) × Ends entries (cur_of got) (stalls_after cur stalls got) (event ∷ events) result

-- the page as the last exit left it
abbrev pub page_left_by : List ℕ → List HostEvent → List ℕ
page_left_by page [] = page
page_left_by page (asked sent got ∷ events) = page_left_by page events
page_left_by page (exited sent got ∷ events) = page_left_by got events

-- the exits of an exchange from an index on
pub record IsExchangeFrom (buffer : ℕ) (entries : List ℕ) (cur stalls : ℕ) (old : List ℕ) (events : List HostEvent) (result : Result (Unit {0}) PscError) (new : List ℕ) : Type 0 where
  pub sends : Sends buffer entries cur old events
  pub ends : Ends entries cur stalls events result
  pub leaves : new ≡ page_left_by old events

-- an exchange up to its last exit: Ok where it is good, else what refuses that exit
abbrev pub IsExchange : ℕ → List ℕ → List ℕ → List HostEvent → Result (Unit {0}) PscError → List ℕ → Type 0
IsExchange buffer entries old events result new = IsExchangeFrom buffer entries 0 0 old events result new
