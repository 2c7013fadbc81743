-- A worked image: the last state of a validated page, as it is written, line by line.
use Rattle.std.specs.Prelude.{◌≡◌, ℕ, false, Some, None, List, [], ◌∷◌, ◌++◌, map, codes, replicate}
use Rattle.svsm_types.specs.declared.image.Image.{Image}
use Rattle.svsm_types.specs.declared.image.Range.{Range}
use Rattle.svsm_types.specs.declared.owner.Owner.{Owner}
use Rattle.svsm_types.specs.declared.owner.Owner.TheVariants.{Guest, Module, Vmsa}
use Rattle.svsm_types.specs.declared.platform.HwState.{HwState}
use Rattle.svsm_types.specs.declared.platform.HwState.TheVariants.{Assigned, Valid}
use Rattle.image_text.specs.Saved.{Saying, ranges_from, fills_from}
use Rattle.image_text.specs.Written.{fields_text, head_lines, item_lines}

abbrev said : Owner → HwState → ℕ → Saying
said owner state rights = record { owner = owner; state = state; rights = rights }

abbrev ranged : ℕ → ℕ → Owner → HwState → ℕ → Range
ranged first count owner state rights = record { first = record { 0 = first }; count = count; owner = owner; state = state; rights = rights }

-- what its pages say, and the ranges of that
abbrev pages : List Saying
pages =
    replicate 5 (said Module Valid 0) ++ (said Module Assigned 0 ∷ (replicate 10 (said Module Valid 0) ++ (said Vmsa Valid 0 ∷
    (replicate 0x1f0 (said Guest Valid 0xf0) ++ replicate 0x1ff (said Guest Assigned 0)))))

abbrev ranges : List Range
ranges =
    ranged 0 5 Module Valid 0 ∷ ranged 5 1 Module Assigned 0 ∷ ranged 6 10 Module Valid 0 ∷ ranged 0x10 1 Vmsa Valid 0
    ∷ ranged 0x11 0x1f0 Guest Valid 0xf0 ∷ ranged 0x201 0x1ff Guest Assigned 0 ∷ []

abbrev image : Image
image = record {
  regions = 2;
  vmpl = record { 0 = 2 };
  second = None;
  features = 1;
  ghcb = record { 0 = 5 };
  ranges = ranges;
  large = [];
  accepts = [];
  cores = record { apic = 0; seat = Some (record { 0 = 0x10 }, record { 0 = 0x20000 }); vmpl = record { 0 = 2 } } ∷ record { apic = 1; seat = None; vmpl = record { 0 = 2 } } ∷ [];
  fills = fills_from 0x4200 (0x10001 ∷ 0x200004 ∷ 0 ∷ 0 ∷ []);
  faults = [];
  host = [];
  split = false;
  blocks = [];
  announce = false;
}

pub record WorkedSave : Type 0 where
  pub runs : ranges_from 0 pages ≡ ranges
  pub lines : map fields_text (head_lines image ++ item_lines image)
      ≡ codes "svsm-image 1" ∷ codes "regions 0x2" ∷ codes "vmpl 0x2" ∷ codes "features 0x1" ∷ codes "ghcb 0x5"
      ∷ codes "range 0x0 0x5 module valid 0x0" ∷ codes "range 0x5 0x1 module assigned 0x0" ∷ codes "range 0x6 0xa module valid 0x0"
      ∷ codes "range 0x10 0x1 vmsa valid 0x0" ∷ codes "range 0x11 0x1f0 guest valid 0xf0" ∷ codes "range 0x201 0x1ff guest assigned 0x0"
      ∷ codes "core 0x0 vmsa 0x10000 caa 0x20000" ∷ codes "core 0x1 parked" ∷ codes "bytes 0x21000 01000100000000000400200000000000" ∷ []
