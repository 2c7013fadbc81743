-- A request that is one step. This module's own.
use Rattle.std.specs.Prelude.{Option, None, Some}
use Rattle.svsm_types.specs.Pages.{page_of}
use Rattle.svsm_types.specs.declared.address.Page.{Page}
use Rattle.svsm_types.specs.declared.request.Request.{Request}
use Rattle.svsm_types.specs.declared.request.Request.TheVariants as requests
use Rattle.svsm_steps.specs.declared.step.Step.{Step}
use Rattle.svsm_steps.specs.declared.step.Step.TheVariants.{GuestWrite, GuestRead, GuestAdjust, HostShare, HostAssign}
use Rattle.run_order.specs.declared.call.CallEnd.{CallEnd}
use Rattle.run_order.specs.declared.call.CallEnd.TheVariants as calls
use Rattle.run_order.specs.declared.request.PieceEnd.{PieceEnd}
use Rattle.run_order.specs.declared.request.PieceEnd.TheVariants as pieces

-- the page and the one step of a request that is no call
abbrev pub one_step : Request → Option (Page × Step)
one_step (requests.Call regs number) = None
one_step (requests.Exit regs number) = None
one_step (requests.Write vmpl gpa word) = Some (record { 0 = page_of gpa.0 }, GuestWrite vmpl gpa word)
one_step (requests.Read vmpl gpa) = Some (record { 0 = page_of gpa.0 }, GuestRead vmpl gpa)
one_step (requests.Adjust vmpl page target mask) = Some (page, GuestAdjust vmpl page target mask)
one_step (requests.Share page) = Some (page, HostShare page)
one_step (requests.Assign page) = Some (page, HostAssign page)

-- a request that is a call ends as the call does
abbrev pub piece_end : CallEnd → PieceEnd
piece_end (calls.Over area outcome) = pieces.Done area outcome
piece_end (calls.Faulted ticket) = pieces.Faulted ticket
piece_end (calls.Stopped stop) = pieces.Stopped stop
