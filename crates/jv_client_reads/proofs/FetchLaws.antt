-- Laws of a reading between its calls: it begins well, stays so while blocks and views come, and shows what its views
-- show.
use Rattle.std.proofs.Common.{◌≡◌, ◌⊎◌, ℕ, ◌+◌, ◌*◌, ◌/◌, ◌<◌, ◌≤◌, min, Bool, true, false, cond, List, [], ◌∷◌, ◌++◌}
use Rattle.std.proofs.Common.{length, Option, None, Some, inl, inr, refl, sym, ap, subst, ◌∙◌, arith, append-nil}
use Rattle.std.specs.Prelude.{All, IfSome, is_some, nat_le, slice_get, if◌then◌else◌}
use Rattle.std.specs.List.{AllByRecursion}
use Rattle.std.proofs.lemmas.Bool.{cases_lt, le-leb, leb-false, leb-true, lt-leb}
use Rattle.std.proofs.lemmas.List.Elements.{All-head}
use Rattle.std.proofs.lemmas.Nat.{div-add-mod', mod_below}
use Rattle.jv_model.specs.declared.limits.TheConstants.{FILE_END, WINDOW}
use Rattle.jv_model.specs.declared.slice.BlockId.{BlockId}
use Rattle.jv_model.specs.promise.journal.Reading.{Asked, asked_parts}
use Rattle.jv_volume_bytes.specs.promise.Blocks.{Blocks, Grows, known_by}
use Rattle.jv_volume_bytes.proofs.BlockLaws.{grows-none, grows-then}
use Rattle.jv_client_handles.specs.declared.views.View.{View}
use Rattle.jv_client_handles.specs.Views.{SeenViews, view_at, with_view}
use Rattle.jv_client_handles.proofs.SeenLaws.{view_at-other}
use Rattle.jv_slices_reading.specs.Parts.{IsNamed}
use Rattle.jv_slices_reading.specs.Laws.{ReadsBlocks}
use Rattle.jv_slices_reading.proofs.PartLaws.{reads_go_on}
use Rattle.jv_client_reads.specs.declared.begun.Begun.{Begun}
use Rattle.jv_client_reads.specs.declared.begun.Read.{Read}
use Rattle.jv_client_reads.specs.declared.need.Need.TheVariants.{Look}
use Rattle.jv_client_reads.specs.Fetching.{Fetching, begins, bytes_read, entry_at, fetched_of, next_of, weight}
use Rattle.jv_client_reads.specs.Shows.{IsReadBy, One, Two, shown_bytes, window_needed}
use Rattle.jv_client_reads.specs.Going.{HasBegun, HasRead, IsFetching, IsShown}
use Rattle.jv_client_reads.specs.Calls.{Wants, first_seen, first_unseen}
use Rattle.jv_client_reads.specs.Inside.{IsWithin}
use Rattle.jv_client_reads.specs.Laws.{FetchesGoOn, IsOfView}
use Rattle.jv_client_reads.proofs.CacheLaws.{cache_of-has, for_looks, has_keeps, has_looks, looks_keep, only_sized}

-- ---- the parts of a range

one_or_two : (P : List Asked → Type 0) (over single : Bool) (one first second : Asked) → over ≡ false
    → (single ≡ true → P (one ∷ [])) → (single ≡ false → P (first ∷ second ∷ []))
    → P (cond over [] (cond single (one ∷ []) (first ∷ second ∷ [])))
one_or_two P true single one first second e f g = let never : ⊥ = cc in absurd never
one_or_two P false true one first second e f g = f refl
one_or_two P false false one first second e f g = g refl

module _ (offset len : ℕ) where
  abbrev stop : ℕ
  stop = min (offset + len) FILE_END

  abbrev border : ℕ
  border = (offset / WINDOW + 1) * WINDOW

  abbrev one : Asked
  one = record { window = offset / WINDOW; from = offset; to = stop }

  abbrev first : Asked
  first = record { window = offset / WINDOW; from = offset; to = border }

  abbrev second : Asked
  second = record { window = offset / WINDOW + 1; from = border; to = stop }

  begins_low : (offset / WINDOW) * WINDOW ≤ offset
  begins_low = omega (arith, div-add-mod' offset WINDOW)

  ends_high : offset < border
  ends_high = omega (arith, div-add-mod' offset WINDOW, mod_below offset WINDOW (omega arith))

  module _ (some : 0 < len) (low : offset < FILE_END) where
    -- what holds of one part and of two
    pub by_parts : (P : List Asked → Type 0) → (stop ≤ border → P (one ∷ []))
        → (border < stop → P (first ∷ second ∷ [])) → P (asked_parts offset len)
    by_parts P f g =
        one_or_two P (nat_le stop offset) (nat_le stop border) one first second (lt-leb stop offset (omega arith))
        (λ e. f (leb-true stop border e)) (λ e. g (leb-false stop border e))

    pub parts_some : 1 ≤ length (asked_parts offset len)
    parts_some = by_parts (λ ps. 1 ≤ length ps) (λ h. omega arith) (λ h. omega arith)

    pub parts_few : length (asked_parts offset len) ≤ 2
    parts_few = by_parts (λ ps. length ps ≤ 2) (λ h. omega arith) (λ h. omega arith)

    pub parts_weight : weight (asked_parts offset len) ≤ len + 2
    parts_weight = by_parts (λ ps. weight ps ≤ len + 2) (λ h. omega arith) (λ h. omega (arith, ends_high))

    pub parts_within : len ≤ WINDOW → AllByRecursion IsWithin (asked_parts offset len)
    parts_within small =
        by_parts (AllByRecursion IsWithin)
        (λ h. (record { low = begins_low; some = omega arith; high = omega (arith, h) }, tt))
        (λ h. (
          record { low = begins_low; some = ends_high; high = omega arith },
          (record { low = omega arith; some = h; high = omega (arith, ends_high) }, tt),
        ))

-- ---- blocks and views that come

pub read_come : (blocks later : Blocks) (views : SeenViews) (block : ℕ) → Grows blocks later
    → (all : List Asked) (read : List Read) (parts : List Asked)
    → HasRead blocks views block all read parts → HasRead later views block all read parts
read_come blocks later views block grows all [] parts h = h
read_come blocks later views block grows [] (r ∷ rs) parts h = h
read_come blocks later views block grows (asked ∷ others) (r ∷ rs) parts (view, shown, full, short) = (
  view,
  record {
    seen = shown.seen;
    entry = shown.entry;
    bytes = λ last more. shown.bytes last (grows-then blocks later last grows more);
  },
  (λ h. read_come blocks later views block grows others rs parts (full h)),
  short,
)

pub come : (blocks later : Blocks) (views : SeenViews) (all : List Asked) (f : Fetching) → Grows blocks later
    → IsFetching blocks views all f → IsFetching later views all f
come blocks later views all f grows is = record {
  some = is.some;
  few = is.few;
  read = read_come blocks later views f.block grows all f.read f.parts is.read;
  begun = is.begun;
  fills = by_begun f.begun is.fills;
}
  where
    by_begun : (o : Option Begun) → IfSome o (λ begun. ReadsBlocks blocks begun.part)
        → IfSome o (λ begun. ReadsBlocks later begun.part)
    by_begun None h = h
    by_begun (Some begun) h = reads_go_on.come blocks later begun.part grows h

module _ (views : SeenViews) (window : ℕ) (view : View) (none : view_at views window ≡ None) where
  abbrev more_views : SeenViews
  more_views = with_view window view views

  still_seen : (other : ℕ) (own : View) → view_at views other ≡ Some own → view_at more_views other ≡ Some own
  still_seen other own is =
      view_at-other window view views other
      (λ same. (let gone : None ≡ Some own = sym none ∙ ap (view_at views) same
      ∙ is in let never : ⊥ = cc in never)) ∙ is

  pub begun_seen : (block : ℕ) (begun : Option Begun) (parts : List Asked) → HasBegun views block begun parts
      → HasBegun more_views block begun parts
  begun_seen block None parts h = h
  begun_seen block (Some begun) [] h = h
  begun_seen block (Some begun) (asked ∷ others) (own, is, by) = (own, still_seen asked.window own is, by)

  pub read_seen : (blocks : Blocks) (block : ℕ) (all : List Asked) (read : List Read) (parts : List Asked)
      → HasRead blocks views block all read parts → HasRead blocks more_views block all read parts
  read_seen blocks block all [] parts h = h
  read_seen blocks block [] (r ∷ rs) parts h = h
  read_seen blocks block (asked ∷ others) (r ∷ rs) parts (own, shown, full, short) = (
    own,
    record { seen = still_seen asked.window own shown.seen; entry = shown.entry; bytes = shown.bytes },
    (λ h. read_seen blocks block others rs parts (full h)),
    short,
  )

  pub seen : (blocks : Blocks) (all : List Asked) (f : Fetching) → IsFetching blocks views all f
      → IsFetching blocks more_views all f
  seen blocks all f is = record {
    some = is.some;
    few = is.few;
    read = read_seen blocks f.block all f.read f.parts is.read;
    begun = begun_seen f.block f.begun f.parts is.begun;
    fills = is.fills;
  }

-- a reading is under way while blocks and views come
pub fetches_go_on : FetchesGoOn
fetches_go_on = record {
  begin = λ blocks views block offset len some low. record {
    some = parts_some offset len some low;
    few = parts_few offset len some low;
    read = refl;
    begun = tt;
    fills = tt;
  };
  come = come;
  seen = λ blocks views all f window view none is. seen views window view none blocks all f is;
  can_seen = λ views f window view none can. begun_seen views window view none f.block f.begun f.parts can;
  found = λ need before after looks. looks_keep before after (for_looks need before after looks);
  looked = λ blocks views block need before after looks.
      has_looks blocks views block before after (for_looks need before after looks);
  kept = has_keeps;
  cached = cache_of-has;
  only = only_sized;
  weight = λ block offset len some low. parts_weight offset len some low;
}

-- ---- what a reading has read

triple : (a b c d : ℕ) (xs ys : List ℕ) → a ≡ c → b ≡ d → xs ≡ ys
    → (let read : ℕ × ℕ × List ℕ = (c, d, ys) in (a, b, xs) ≡ read)
triple a b c d xs ys p q r = λ i. (p i, q i, r i)

module _ (blocks : Blocks) (views : SeenViews) (block : ℕ) where
  abbrev bytes_known : View → Asked → List ℕ
  bytes_known view asked = shown_bytes (known_by block blocks) view asked

  abbrev AreRead : List Asked → List Read → Type 0
  AreRead all read = IsReadBy (known_by block blocks) views all (entry_at 0 read, entry_at 1 read, bytes_read read)

  shown_now : (asked : Asked) (view : View) (r : Read) → IsShown blocks views block asked view r
      → r.bytes ≡ bytes_known view asked
  shown_now asked view r shown = shown.bytes blocks (grows-none blocks)

  done_one : (asked : Asked) (others : List Asked) (view : View) (r : Read) → IsShown blocks views block asked view r
      → (others ≡ []) ⊎ (view.length < asked.to) → AreRead (asked ∷ others) (r ∷ [])
  done_one asked others view r shown last =
      One asked others view refl shown.seen last
      (triple r.entry 0 view.entry 0 (r.bytes ++ []) (bytes_known view asked) shown.entry refl (append-nil r.bytes
      ∙ shown_now asked view r shown))

  done_two : (asked other : Asked) (view next : View) (r s : Read) → IsShown blocks views block asked view r
      → asked.to ≤ view.length
      → IsShown blocks views block other next s → AreRead (asked ∷ other ∷ []) (r ∷ s ∷ [])
  done_two asked other view next r s shown full shown' =
      Two asked other view next refl shown.seen full shown'.seen
      (triple r.entry s.entry view.entry next.entry (r.bytes ++ (s.bytes ++ []))
      (bytes_known view asked ++ bytes_known next other) shown.entry shown'.entry
      (ap (λ xs. r.bytes ++ xs) (append-nil s.bytes ∙ shown_now other next s shown')
      ∙ ap (λ xs. xs ++ bytes_known next other) (shown_now asked view r shown)))

  -- nothing more is read of no part
  none_read : (read : List Read) (parts : List Asked) → HasRead blocks views block [] read parts → read ≡ []
  none_read [] parts h = refl
  none_read (r ∷ rs) parts h = absurd h

  last_read : (other : Asked) (rs : List Read) (parts : List Asked) (view : View)
      → (other.to ≤ view.length → HasRead blocks views block [] rs parts)
      → (view.length < other.to → (rs ≡ []) × (parts ≡ [])) → rs ≡ []
  last_read other rs parts view full short = elim (cases_lt view.length other.to) [
    | inl low ↦ (short low).0
    | inr high ↦ none_read rs parts (full high)
  ]

  -- the second part
  done_more : (asked : Asked) (others : List Asked) (view : View) (r : Read) (rs : List Read) → length others ≤ 1
      → IsShown blocks views block asked view r
      → asked.to ≤ view.length → HasRead blocks views block others rs [] → AreRead (asked ∷ others) (r ∷ rs)
  done_more asked [] view r [] few shown full h = done_one asked [] view r shown (inl refl)
  done_more asked [] view r (s ∷ ss) few shown full h = absurd h
  done_more asked (other ∷ rest) view r [] few shown full h = let never : ⊥ = cc in absurd never
  done_more asked (other ∷ []) view r (s ∷ ss) few shown full (next, shown', full', short') =
      subst (λ (xs : List Read). AreRead (asked ∷ other ∷ []) (r ∷ s ∷ xs))
      (sym (last_read other ss [] next full' short'))
      (done_two asked other view next r s shown full shown')
  done_more asked (other ∷ third ∷ rest) view r (s ∷ ss) few shown full h = absurd (omega (arith, few))

  done : (all : List Asked) (read : List Read) → 1 ≤ length all → length all ≤ 2
      → HasRead blocks views block all read [] → AreRead all read
  done [] read some few h = absurd (omega (arith, some))
  done (asked ∷ others) [] some few h = let never : ⊥ = cc in absurd never
  done (asked ∷ others) (r ∷ rs) some few (view, shown, full, short) = elim (cases_lt view.length asked.to) [
    | inl low ↦ subst (λ (xs : List Read). AreRead (asked ∷ others) (r ∷ xs)) (sym (short low).0)
        (done_one asked others view r shown (inr low))
    | inr high ↦ done_more asked others view r rs (omega (arith, few)) shown high (full high)
  ]

pub all_read : (blocks : Blocks) (views : SeenViews) (all : List Asked) (f : Fetching) → f.parts ≡ []
    → IsFetching blocks views all f
    → IsReadBy (known_by f.block blocks) views all (fetched_of f)
all_read blocks views all f over is =
    done blocks views f.block all f.read is.some is.few
    (subst (λ (ps : List Asked). HasRead blocks views f.block all f.read ps) over is.read)

-- ---- what a reading needs

module _ (views : SeenViews) (window : ℕ) where
  look_first : (all : List Asked) → first_unseen views all window → window_needed views all ≡ Some window
  look_first [] h = absurd h
  look_first (asked ∷ others) (same, none) =
      ap (λ (o : Option View). elim o [
        | None ↦ Some asked.window
        | Some
            view ↦ (if nat_le asked.to view.length then window_needed views others else None)
      ])
      (ap (view_at views) same ∙ none) ∙ ap Some same

  pub look_read : (blocks : Blocks) (block : ℕ) (all : List Asked) (read : List Read) (parts : List Asked)
      → HasRead blocks views block all read parts
      → first_unseen views parts window → window_needed views all ≡ Some window
  look_read blocks block all [] parts same unseen =
      look_first all (subst (λ (ps : List Asked). first_unseen views ps window) same unseen)
  look_read blocks block [] (r ∷ rs) parts h unseen = absurd h
  look_read blocks block (asked ∷ others) (r ∷ rs) parts (view, shown, full, short) unseen =
      elim (cases_lt view.length asked.to) [
        | inl low ↦ absurd (subst (λ (ps : List Asked). first_unseen views ps window) (short low).1 unseen)
        | inr high ↦ (ap (λ (o : Option View). elim o [
          | None ↦ Some asked.window
          | Some
              view ↦ (if nat_le asked.to view.length then window_needed views others else None)
        ]) shown.seen
            ∙ ap (λ b. if b then window_needed views others else None) (le-leb asked.to view.length high)
            ∙ look_read blocks block others rs parts (full high) unseen)
      ]

pub looks : (blocks : Blocks) (views : SeenViews) (all : List Asked) (f : Fetching) (window : ℕ)
    → Wants views f (Look window)
    → IsFetching blocks views all f → window_needed views all ≡ Some window
looks blocks views all f window wants is = look_read views window blocks f.block all f.read f.parts is.read wants.1

module _ (blocks : Blocks) (views : SeenViews) (block : ℕ) where
  seen_is : (asked : Asked) (view : View) → view_at views asked.window ≡ Some view
      → is_some (view_at views asked.window) ≡ true
  seen_is asked view is = ap (is_some {T = View}) is

  first_begun : (begun : Begun) (parts : List Asked) → HasBegun views block (Some begun) parts → first_seen views parts
  first_begun begun [] h = h
  first_begun begun (asked ∷ others) (view, is, by) = seen_is asked view is

  first_read : (begun : Begun) (parts all : List Asked) (read : List Read) → HasBegun views block (Some begun) parts
      → HasRead blocks views block all read parts → first_seen views all
  first_read begun parts all [] has same =
      subst (λ (ps : List Asked). first_seen views ps) same (first_begun begun parts has)
  first_read begun parts [] (r ∷ rs) has h = h
  first_read begun parts (asked ∷ others) (r ∷ rs) has (view, shown, full, short) = seen_is asked view shown.seen

  next_named : (view : View) (bs : List BlockId) (b : BlockId) → All (IsNamed view.list block) bs
      → slice_get bs 0 ≡ Some b → IsNamed view.list block b
  next_named view [] b named is = let never : ⊥ = cc in absurd never
  next_named view (x ∷ bs) b named is = let same : x ≡ b =
      cc in subst (IsNamed view.list block) same (All-head (IsNamed view.list block) x bs named)

  of_view : (begun : Begun) (parts all : List Asked) (b : BlockId) → slice_get begun.part.left 0 ≡ Some b
      → HasBegun views block (Some begun) parts → first_seen views all → IsOfView views block all b
  of_view begun [] all b next h begins = absurd h
  of_view begun (asked ∷ others) all b next (view, is, by) begins =
      record {
        window = asked.window;
        view = view;
        seen = is;
        named = next_named view begun.part.left b by.named next;
        first = begins;
      }

  pub needs : (begun : Option Begun) (parts all : List Asked) (read : List Read) (b : BlockId) → next_of begun ≡ Some b
      → HasBegun views block begun parts
      → HasRead blocks views block all read parts → IsOfView views block all b
  needs None parts all read b next has h = let never : ⊥ = cc in absurd never
  needs (Some begun) parts all read b next has h =
      of_view begun parts all b next has (first_read begun parts all read has h)
