-- Places that were made as a state stand as it.
use Rattle.std.proofs.Common.{◌≡◌, ℕ, zero, suc, ◌+◌, ◌*◌, ◌/◌, ◌^◌, ◌<◌, ◌≤◌, Bool, Option, List, [], ◌∷◌, length, refl, sym, ap, subst, ◌∙◌, arith}
use Rattle.std.specs.Prelude.{map, filter, if◌then◌else◌}
use Rattle.std.specs.List.{range_with_len}
use Rattle.std.proofs.lemmas.List.{get_or-map}
use Rattle.svsm_types.specs.Pages.{page_of, region_of}
use Rattle.svsm_types.specs.declared.image.Image.{Image}
use Rattle.svsm_types.specs.declared.owner.RmpRow.{RmpRow}
use Rattle.svsm_types.specs.declared.vcpu.Row.{Row}
use Rattle.svsm_steps.specs.declared.outcome.CoreRun.{CoreRun}
use Rattle.svsm_steps.specs.Image.{constants_of}
use Rattle.svsm_steps.specs.Machine.{region, pool, registry}
use Rattle.svsm_steps.specs.Places.{in_region, in_pool, in_registry, place_in}
use Rattle.svsm_steps.specs.State.{State, Block, RegionState, row_at, rmp_rows, word_at}
use Rattle.svsm_laws.proofs.Places.{place_in-value}
use Rattle.place_core.specs.Kinds.{value_of}
use Rattle.place_core.specs.PlaceView.{PlaceView}
use Rattle.image_text.specs.Fits.{FitsIn64Bits}
use Rattle.image_text.specs.Refused.{first_core, first_unsaved_page, by_core, save_told}
use Rattle.image_text.specs.Saved.{saved, saved_core, saved_block, saved_ranges, saved_large, saved_fills, ranges_from, fills_from}
use Rattle.image_text.specs.Collected.{rows_saying}
use Rattle.image_text.specs.Written.{image_text}
use Rattle.image_text.proofs.CollectLemmas.{ranges_are_saved}
use Rattle.image_save.specs.Gathered.{first_unsaid}
use Rattle.image_save.specs.Standing.{opened_at, region_held, pool_held, rows_held, standing, IsRestedAt}
use Rattle.image_save.specs.Stood.{AreMadeAs, MadePlacesStand}
use Rattle.image_save.proofs.ImageLemmas.{built_alike}
use Rattle.image_save.proofs.GatherLemmas.{as_page_one, unsaid_is}

-- what each was made as
made_at : (image : Image) (state : State) (places : List PlaceView) (number : ℕ) (place : PlaceView) → AreMadeAs image state places → number ≤ image.regions + 1
    → opened_at places number ≡ place_in (constants_of image) state number
made_at image state places number place made low =
    let within : number < length places = omega (arith, low, made.count) in
    get_or-map (λ (p : PlaceView). value_of p.opening) places number place (in_registry [] []) within
    ∙ ap value_of (sym (get_or-map (λ (p : PlaceView). p.opening) places number place place.opening within))
    ∙ made.values number place.opening low

-- lists over numbers below a count
same_map : {A : Type 0} (one other : ℕ → A) (first count : ℕ) → ((n : ℕ) → first ≤ n → n < first + count → one n ≡ other n)
    → map one (range_with_len first count) ≡ map other (range_with_len first count)
same_map one other first zero same = refl
same_map {A} one other first (suc count) same =
    ap (λ (w : A). w ∷ map one (range_with_len (first + 1) count)) (same first (omega arith) (omega arith))
    ∙ ap (λ (l : List A). other first ∷ l) (same_map one other (first + 1) count (λ n low high. same n (omega (arith, low)) (omega (arith, high))))

same_filter : (one other : ℕ → Bool) (first count : ℕ) → ((n : ℕ) → first ≤ n → n < first + count → one n ≡ other n)
    → filter one (range_with_len first count) ≡ filter other (range_with_len first count)
same_filter one other first zero same = refl
same_filter one other first (suc count) same =
    ap (λ (t : Bool). if t then first ∷ filter one (range_with_len (first + 1) count) else filter one (range_with_len (first + 1) count)) (same first (omega arith) (omega arith))
    ∙ ap (λ (l : List ℕ). if other first then first ∷ l else l) (same_filter one other (first + 1) count (λ n low high. same n (omega (arith, low)) (omega (arith, high))))

-- a state is told by its regions in the map, its pool and its rows
pub record Alike (image : Image) (one other : State) : Type 0 where
  pub regions : (number : ℕ) → number < image.regions → one.regions number ≡ other.regions number
  pub pool : one.pool ≡ other.pool
  pub rows : one.rows ≡ other.rows

rows_alike : (image : Image) (one other : State) → Alike image one other → rmp_rows image.regions one ≡ rmp_rows image.regions other
rows_alike image one other alike =
    same_map (λ page. row_at page one) (λ page. row_at page other) 0 (512 * image.regions)
    (λ page low high. let within : page / 512 < image.regions = omega (arith, high) in
    ap (λ (r : RegionState). row_at page (record { regions = λ number. r; pool = []; rows = [] })) (alike.regions (page / 512) within))

saved_alike : (image : Image) (one other : State) → Alike image one other → saved image one ≡ saved image other
saved_alike image one other alike =
    let ranges : saved_ranges image one ≡ saved_ranges image other =
    sym (ranges_are_saved image one) ∙ ap (λ (l : List RmpRow). ranges_from 0 (rows_saying image.ghcb.0 0 l)) (rows_alike image one other alike) ∙ ranges_are_saved image other in
    let large : saved_large image one ≡ saved_large image other =
    same_filter (λ n. (one.regions n).hw.large) (λ n. (other.regions n).hw.large) 0 image.regions
    (λ n low high. ap (λ (r : RegionState). r.hw.large) (alike.regions n (omega (arith, high)))) in
    let fills : saved_fills image one ≡ saved_fills image other =
    ap (fills_from 0) (same_map (λ n. word_at (8 * n) one) (λ n. word_at (8 * n) other) 0 (512 * (512 * image.regions))
    (λ n low high. let within : region_of (page_of (8 * n)) < image.regions = omega (arith, high) in
    ap (λ (r : RegionState). r.hw.words (8 * n)) (alike.regions (region_of (page_of (8 * n))) within))) in
    built_alike image (saved_ranges image one) (saved_ranges image other) (saved_large image one) (saved_large image other)
    (map (saved_core one.rows) image.cores) (map (saved_core other.rows) image.cores) (saved_fills image one) (saved_fills image other)
    (map saved_block one.pool) (map saved_block other.pool)
    ranges large (ap (λ (l : List Row). map (saved_core l) image.cores) alike.rows) fills (ap (λ (l : List Block). map saved_block l) alike.pool)

page_alike : (image : Image) (one other : State) → Alike image one other → first_unsaved_page image one ≡ first_unsaved_page image other
page_alike image one other alike =
    as_page_one (first_unsaved_page image one) (first_unsaved_page image other)
    (sym (unsaid_is image one) ∙ ap (first_unsaid image.ghcb.0 0) (rows_alike image one other alike) ∙ unsaid_is image other)

told_alike : (image : Image) (one other : State) (cores : List CoreRun) (refused : Option (ℕ × ℕ)) → Alike image one other
    → save_told image cores refused one ≡ save_told image cores refused other
told_alike image one other cores refused alike =
    ap (λ (page : Option ℕ). by_core (first_core cores) refused page (image_text (saved image one))) (page_alike image one other alike)
    ∙ ap (λ (now : Image). by_core (first_core cores) refused (first_unsaved_page image other) (image_text now)) (saved_alike image one other alike)

fits_alike : (image : Image) (one other : State) → Alike image one other → FitsIn64Bits image one → FitsIn64Bits image other
fits_alike image one other alike fits = record {
  features = fits.features;
  words = λ number low.
      let within : region_of (page_of (8 * number)) < image.regions = omega (arith, low) in
      subst (λ (r : RegionState). r.hw.words (8 * number) < 2 ^ 64) (alike.regions (region_of (page_of (8 * number))) within) (fits.words number low);
}

first_of : (places : List PlaceView) → 0 < length places → PlaceView
first_of [] h = absurd (omega (arith, h))
first_of (place ∷ places) h = place

rested_at : (image : Image) (state : State) (places : List PlaceView) (number : ℕ) → AreMadeAs image state places → number ≤ image.regions + 1
    → IsRestedAt places number
rested_at image state places number made low =
    let within : number < length places = omega (arith, low, made.count) in
    record {
      within = within;
      rested = λ none. let one = made.fresh number none within in record { number_is = one.number_is; log_is = one.log_is; at_rest = one.at_rest };
    }

pub made_places_stand : MadePlacesStand
made_places_stand image state places made =
    let some : 0 < length places = omega (arith, made.count) in
    let at : (number : ℕ) → number ≤ image.regions + 1 → opened_at places number ≡ place_in (constants_of image) state number =
    λ n low. made_at image state places n (first_of places some) made low in
    let region_at : (number : ℕ) → number < image.regions → opened_at places number ≡ in_region (state.regions number) =
    λ n low. let near : n ≤ image.regions + 1 = omega (arith, low) in at n near ∙ place_in-value region (constants_of image) state n low in
    let pool_at : opened_at places image.regions ≡ in_pool (constants_of image).split state.pool =
    let near : image.regions ≤ image.regions + 1 = omega arith in at image.regions near ∙ place_in-value pool (constants_of image) state image.regions refl in
    let rows_at : opened_at places (image.regions + 1) ≡ in_registry (constants_of image).cores state.rows =
    let near : image.regions + 1 ≤ image.regions + 1 = omega arith in
    at (image.regions + 1) near ∙ place_in-value registry (constants_of image) state (image.regions + 1) refl in
    let alike : Alike image (standing image.regions places) state = record {
      regions = λ n low. ap region_held (region_at n low);
      pool = ap pool_held pool_at;
      rows = ap rows_held rows_at;
    } in
    record {
      are = record {
        most = made.most;
        each = λ n low. let near : n ≤ image.regions + 1 = omega (arith, low) in record {
          here = rested_at image state places n made near;
          region = region_at n low ∙ ap in_region (sym (ap region_held (region_at n low)));
        };
        pool = let near : image.regions ≤ image.regions + 1 = omega arith in record {
          here = rested_at image state places image.regions made near;
          among = λ none. let within : image.regions < length places = omega (arith, made.count) in (made.fresh image.regions none within).regions_is;
          split = (constants_of image).split;
          pool = pool_at ∙ ap (in_pool (constants_of image).split) (sym (ap pool_held pool_at));
        };
        registry = let near : image.regions + 1 ≤ image.regions + 1 = omega arith in record {
          here = rested_at image state places (image.regions + 1) made near;
          cores = (constants_of image).cores;
          registry = rows_at ∙ ap (in_registry (constants_of image).cores) (sym (ap rows_held rows_at));
        };
      };
      pages = rows_alike image (standing image.regions places) state alike;
      pool = alike.pool;
      rows = alike.rows;
      told = λ cores refused. told_alike image (standing image.regions places) state cores refused alike;
      fits = fits_alike image (standing image.regions places) state alike;
    }
