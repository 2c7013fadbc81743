-- What is told of the order of a history.
use Rattle.std.specs.Prelude.{◌≡◌, List, All}
use Rattle.svsm_types.specs.declared.image.Image.{Image}
use Rattle.svsm_types.specs.declared.request.Request.{Request}
use Rattle.svsm_steps.specs.declared.entry.Entry.{Entry}
use Rattle.ap_start.specs.Exits.{IsLow, taken, refused_exit}
use Rattle.run_trees.specs.Order.{IsOrdered, BreaksOrder}
use Rattle.run_order.specs.declared.order.WholeOrder.{WholeOrder}
use Rattle.run_order.specs.declared.order.Order.{Order}
use Rattle.run_order.specs.declared.order.Order.TheVariants.{Whole, Breaks}

-- a whole list, with what its cores gave, and what the host was told of its vCPUs
pub record IsWhole (image : Image) (scripts : List (List Request)) (entries : List Entry) (order : WholeOrder) : Type 0 where
  pub ordered : IsOrdered image scripts entries order.cores
  pub exits : order.exits ≡ taken image ordered.exits
  pub refused : order.refused ≡ refused_exit image ordered.exits
  pub low : All IsLow order.exits

-- a whole list, or the first entry with which it is the begin of none
abbrev pub Orders : Image → List (List Request) → List Entry → Order → Type 0
Orders image scripts entries (Whole order) = IsWhole image scripts entries order
Orders image scripts entries (Breaks at) = BreaksOrder image scripts entries at
