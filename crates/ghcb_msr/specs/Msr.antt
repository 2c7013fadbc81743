-- The GHCB MSR (AMD 56421, 'GHCB MSR protocol'): bits 11:0 are the GHCBInfo, which tells what the other bits are.
use Rattle.std.specs.Prelude.{ℕ, ◌+◌, ◌*◌, ◌/◌, ◌%◌, ◌^◌, ◌<◌, ◌≤◌, ◌==◌, Bool, true, ◌&&◌, if◌then◌else◌, Option, None, Some, ⊤}
use Rattle.ghcb_msr.specs.declared.request.MsrRequest.{MsrRequest}
use Rattle.ghcb_msr.specs.declared.request.MsrRequest.TheVariants as Request
use Rattle.ghcb_msr.specs.declared.request.MsrReply.{MsrReply}
use Rattle.ghcb_msr.specs.declared.request.MsrReply.TheVariants as Reply

-- a number in the bits from `low` on
abbrev pub at_bit : ℕ → ℕ → ℕ
at_bit low number = number * 2 ^ low

-- the number in `width` bits from `low` on
abbrev pub bits : ℕ → ℕ → ℕ → ℕ
bits low width word = word / 2 ^ low % 2 ^ width

-- what is sent; bits that have no field are 0
abbrev pub sent : MsrRequest → ℕ
sent Request.Info = 0x002
sent Request.Features = 0x080
sent (Request.Register page) = 0x012 + at_bit 12 page.0
sent (Request.Change page operation) = 0x014 + (at_bit 12 page.0 + at_bit 52 operation)
sent (Request.Run vmpl) = 0x016 + at_bit 32 vmpl.0
sent (Request.Terminate set reason) = 0x100 + (at_bit 12 set + at_bit 16 reason)

-- an answer says so where it has this GHCBInfo, and where this holds of its other bits
abbrev pub says : ℕ → ℕ → Bool → MsrReply → Option MsrReply
says got info holds reply = if (bits 0 12 got == info) && holds then Some reply else None

-- what a right answer says; None where the answer is not right. A registered page comes back as it was sent, so all ones are a
-- refusal; the error bits of a changed page and of a run are 0; other bits without a field are ignored
abbrev pub reply_to : MsrRequest → ℕ → Option MsrReply
reply_to Request.Info got = says got 0x001 true (Reply.Info (bits 48 16 got) (bits 32 16 got) (bits 24 8 got))
reply_to Request.Features got = says got 0x081 true (Reply.Features (bits 12 52 got))
reply_to (Request.Register page) got = says got 0x013 (bits 12 52 got == page.0) Reply.Registered
reply_to (Request.Change page operation) got = says got 0x015 (bits 32 32 got == 0) Reply.Changed
reply_to (Request.Run vmpl) got = says got 0x017 (bits 32 32 got == 0) Reply.Ran
reply_to (Request.Terminate set reason) got = None

-- the fields of a request fit into their bits
abbrev pub FitsBits : MsrRequest → Type 0
FitsBits (Request.Register page) = page.0 < 2 ^ 40
FitsBits (Request.Change page operation) = (page.0 < 2 ^ 40) × (operation ≤ 15)
FitsBits (Request.Terminate set reason) = set ≤ 15
FitsBits _ = ⊤
