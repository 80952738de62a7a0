-- What views of a handle show is what those of the model's file show.
use Rattle.std.proofs.Common.{◌≡◌, ◌⊎◌, ℕ, zero, suc, ◌+◌, ◌-◌, ◌*◌, ◌<◌, ◌≤◌, min, Bool, true, false, cond, List, []}
use Rattle.std.proofs.Common.{◌∷◌, length, Option, None, Some, inl, inr, refl, sym, ap, subst, ◌∙◌, arith, eq-eqb}
use Rattle.std.proofs.Common.{ne_eqb}
use Rattle.std.specs.Prelude.{◌≢◌, ◌==◌, ◌&&◌, nat_le, if◌then◌else◌, find}
use Rattle.std.specs.List.{AllByRecursion}
use Rattle.std.specs.Option.{option_map}
use Rattle.jv_model.specs.declared.limits.TheConstants.{WINDOW}
use Rattle.jv_model.specs.promise.client.ModelClient.{OpenFile, View as ModelView}
use Rattle.jv_model.specs.promise.journal.Reading.{Asked, asked_parts, bytes_between, bytes_from, cited_view}
use Rattle.jv_model.specs.promise.journal.Reading.{fresh_view, is_fresh, is_full, joined, part_read, part_to_look}
use Rattle.jv_model.specs.promise.journal.Reading.{read_on, reading, window_start}
use Rattle.jv_model.specs.declared.slice.Rec.{Rec}
use Rattle.jv_model.specs.promise.Optional.{provided}
use Rattle.jv_volume_bytes.specs.promise.Blocks.{known_by}
use Rattle.jv_volume_bytes.specs.promise.Bytes.{KnownBytes}
use Rattle.jv_client_shared.specs.promise.Shared.{Known, Shared}
use Rattle.jv_client_shared.specs.Shared.{rows_in}
use Rattle.jv_client_shared.specs.Seen.{IsFound}
use Rattle.jv_client_shared.proofs.SeenLaws.{bytes_from-same}
use Rattle.jv_client_handles.specs.declared.handle.Handle.{Handle}
use Rattle.jv_client_handles.specs.declared.views.View.{View}
use Rattle.jv_client_handles.specs.Held.{IsHandle, IsSeen, SamePlace}
use Rattle.jv_client_handles.specs.Views.{view_at}
use Rattle.jv_slices_reading.specs.Parts.{window_byte}
use Rattle.jv_client_reads.specs.Calls.{AreSizedBy}
use Rattle.jv_client_reads.specs.Shows.{IsReadBy, One, Two, shown_bytes, shown_len, window_needed}
use Rattle.jv_client_reads.specs.Inside.{IsWithin}
use Rattle.jv_client_reads.specs.Laws.{FetchesShow}
use Rattle.jv_client_reads.proofs.CacheLaws.{named_sized}
use Rattle.jv_client_reads.proofs.FetchLaws.{all_read, looks, needs, parts_within}

-- the first of those that pass two tests, where the first that passes one passes both
first-both : (test also : ModelView → Bool) (views : List ModelView) (m : ModelView) → find test views ≡ Some m
    → also m ≡ true
    → find (λ view. also view && test view) views ≡ Some m
first-both test also [] m h e = h
first-both test also (x ∷ xs) m h e = go (test x) (also x) refl h (first-both test also xs m)
  where
    go : (a b : Bool) → also x ≡ b → cond a (Some x) (find test xs) ≡ Some m
        → (find test xs ≡ Some m → also m ≡ true → find (λ view. also view && test view) xs ≡ Some m)
        → cond (b && a) (Some x) (find (λ view. also view && test view) xs) ≡ Some m
    go true true is h later = h
    go true false is h later =
        let same : x ≡ m = cc in
        let never : true ≡ false = sym e ∙ sym (ap also same) ∙ is in
        let no : ⊥ = cc in absurd no
    go false true is h later = later h e
    go false false is h later = later h e

-- the length of bytes from a position on
length-bytes : (byte : ℕ → ℕ) (from n : ℕ) → length (bytes_from byte from n) ≡ n
length-bytes byte from zero = refl
length-bytes byte from (suc n) = ap suc (length-bytes byte (from + 1) n)

all_sized : (g : Known) (v : Shared) (list : List Rec)
    → AllByRecursion (IsFound v.yard.setting.block (rows_in v) g) list
    → AllByRecursion (λ r. r.id ≢ 0 → r.size ≡ g.sizes r.id) list
all_sized g v [] h = tt
all_sized g v (r ∷ list) (first, others) = (first.sized, all_sized g v list others)

module _ (g : Known) (v : Shared) (views : List ModelView) (count number : ℕ) (file : OpenFile) (handle : Handle)
    (held : IsHandle g v views count number file handle) where
  abbrev known_bytes : KnownBytes
  known_bytes = known_by v.yard.setting.block g.blocks

  -- a view of the handle is the model's fresh one
  fresh_seen : (window : ℕ) (view : View) → view_at handle.views window ≡ Some view
      → (m : ModelView) × (fresh_view views number file window ≡ Some m) × IsSeen g v window m view
  fresh_seen window view is =
      go (fresh_view views number file window) refl
      (subst (SamePlace (IsSeen g v window) (fresh_view views number file window)) is (held.seen window))
    where
      go : (o : Option ModelView) → fresh_view views number file window ≡ o
          → SamePlace (IsSeen g v window) o (Some view)
          → (m : ModelView) × (fresh_view views number file window ≡ Some m) × IsSeen g v window m view
      go None e h = absurd h
      go (Some m) e h = (m, e, h)

  cited : (window : ℕ) (view : View) (m : ModelView) → fresh_view views number file window ≡ Some m
      → IsSeen g v window m view
      → cited_view views number file window view.entry ≡ Some m
  cited window view m is seen =
      first-both (is_fresh number file window) (λ other. other.entry == view.entry) views m is
      (eq-eqb m.entry view.entry seen.entry)

  -- and shows the same bytes of a part
  same_shown : (asked : Asked) (view : View) (m : ModelView) → IsWithin asked → IsSeen g v asked.window m view
      → bytes_between m.content asked.from asked.to ≡ shown_bytes known_bytes view asked
  same_shown asked view m within seen =
      ap (λ n. bytes_from m.content.byte asked.from (min asked.to n - asked.from)) seen.shows.long
      ∙ bytes_from-same m.content.byte (window_byte known_bytes view.list) asked.from (asked.from - window_start asked.window)
      (shown_len view asked)
      (λ k low.
      let place : ℕ = asked.from - window_start asked.window + k in
      let at : asked.window * WINDOW + place ≡ asked.from + k = omega (arith, within.low) in
      ap m.content.byte (sym at)
      ∙ seen.shows.bytes place (omega (arith, within.low, within.high, low)) (omega (arith, at, low)))

  pub part_shown : (asked : Asked) (view : View) → IsWithin asked → view_at handle.views asked.window ≡ Some view
      → part_read views number file view.entry asked ≡ Some (shown_bytes known_bytes view asked)
  part_shown asked view within is = by_view (fresh_seen asked.window view is)
    where
      by_view : (m : ModelView) × (fresh_view views number file asked.window ≡ Some m) × IsSeen g v asked.window m view
          → part_read views number file view.entry asked ≡ Some (shown_bytes known_bytes view asked)
      by_view (m, e, seen) =
          ap (λ (o : Option ModelView). elim o
          [ None ↦ None | Some view ↦ Some (bytes_between view.content asked.from asked.to) ])
          (cited asked.window view m e seen)
          ∙ ap Some (same_shown asked view m within seen)

  -- whether a part is full
  full_is : (asked : Asked) (view : View) → asked.to ≤ view.length → is_full asked (shown_bytes known_bytes view asked) ≡ true
  full_is asked view h =
      eq-eqb _ _ (length-bytes (window_byte known_bytes view.list) (asked.from - window_start asked.window)
      (shown_len view asked) ∙ omega arith)

  short_is : (asked : Asked) (view : View) → asked.from < asked.to → view.length < asked.to
      → is_full asked (shown_bytes known_bytes view asked) ≡ false
  short_is asked view some h =
      let long = length-bytes (window_byte known_bytes view.list) (asked.from - window_start asked.window)
      (shown_len view asked) in
      ne_eqb _ _ (λ e. absurd (omega (arith, e, long, some, h)))

  read_one : (asked : Asked) (others : List Asked) (view : View) → asked.from < asked.to
      → (others ≡ []) ⊎ (view.length < asked.to)
      → read_on views number file 0 asked others (Some (shown_bytes known_bytes view asked))
      ≡ Some (shown_bytes known_bytes view asked)
  read_one asked [] view some last = refl
  read_one asked (other ∷ others) view some (inl none) = let never : ⊥ = cc in absurd never
  read_one asked (other ∷ others) view some (inr low) =
      ap (λ b. cond b (joined (shown_bytes known_bytes view asked) (part_read views number file 0 other))
      (provided (0 == 0) (shown_bytes known_bytes view asked))) (short_is asked view some low)

  -- a range that is read by the handle's views reads as the model's file
  pub same_read : (parts : List Asked) (read : ℕ × ℕ × List ℕ) → AllByRecursion IsWithin parts
      → IsReadBy known_bytes handle.views parts read
      → reading views number file parts read.0 read.1 ≡ Some read.2
  same_read parts read within (One asked others view are seen last is) =
      let within' : AllByRecursion IsWithin (asked ∷ others) = subst (AllByRecursion IsWithin) are within in
      let Reads : ℕ × ℕ × List ℕ → Type 0 = λ r. reading views number file parts r.0 r.1 ≡ Some r.2 in
      subst Reads (sym is)
      (ap (λ (ps : List Asked). reading views number file ps view.entry 0) are
      ∙ ap (read_on views number file 0 asked others) (part_shown asked view within'.0 seen)
      ∙ read_one asked others view within'.0.some last)
  same_read parts read within (Two asked other view next are seen full seen' is) =
      let within' : AllByRecursion IsWithin (asked ∷ other ∷ []) = subst (AllByRecursion IsWithin) are within in
      let Reads : ℕ × ℕ × List ℕ → Type 0 = λ r. reading views number file parts r.0 r.1 ≡ Some r.2 in
      let bytes = shown_bytes known_bytes view asked in
      subst Reads (sym is)
      (ap (λ (ps : List Asked). reading views number file ps view.entry next.entry) are
      ∙ ap (read_on views number file next.entry asked (other ∷ [])) (part_shown asked view within'.0 seen)
      ∙ ap (λ b. cond b (joined bytes (part_read views number file next.entry other)) (provided (next.entry == 0) bytes))
      (full_is asked view full)
      ∙ ap (joined bytes) (part_shown other next within'.1.0 seen'))

  -- its records have the sizes that are known
  pub handle_sized : AreSizedBy g.sizes handle.views
  handle_sized = record { sized = λ window view is. by_view window view (fresh_seen window view is) }
    where
      by_view : (window : ℕ) (view : View)
          → (m : ModelView) × (fresh_view views number file window ≡ Some m) × IsSeen g v window m view
          → AllByRecursion (λ r. r.id ≢ 0 → r.size ≡ g.sizes r.id) view.list
      by_view window view (m, e, seen) = all_sized g v view.list seen.shows.records

  -- the window that has to be looked at
  pub same_needed : (all : List Asked)
      → window_needed handle.views all
      ≡ option_map (λ (asked : Asked). asked.window) (part_to_look views number file all)
  same_needed [] = refl
  same_needed (asked ∷ others) =
      go (fresh_view views number file asked.window) (view_at handle.views asked.window) (held.seen asked.window)
      (same_needed others)
    where
      by_test : (b : Bool) → window_needed handle.views others
          ≡ option_map (λ (asked : Asked). asked.window) (part_to_look views number file others)
          → cond b (window_needed handle.views others) None
          ≡ option_map (λ (asked : Asked). asked.window) (cond b (part_to_look views number file others) None)
      by_test true later = later
      by_test false later = refl

      go : (o : Option ModelView) (p : Option View) → SamePlace (IsSeen g v asked.window) o p
          → window_needed handle.views others
          ≡ option_map (λ (asked : Asked). asked.window) (part_to_look views number file others)
          → elim p [
            | None ↦ Some asked.window
            | Some
                view ↦ (if nat_le asked.to view.length then window_needed handle.views others else None)
          ]
          ≡ option_map (λ (asked : Asked). asked.window)
          (elim o [
            | None ↦ Some asked
            | Some
                view ↦ (if nat_le asked.to view.content.length then part_to_look views number file others else None)
          ])
      go None None h later = refl
      go None (Some view) h later = absurd h
      go (Some m) None h later = absurd h
      go (Some m) (Some view) h later =
          by_test (nat_le asked.to view.length) later
          ∙ ap (λ n. option_map (λ (asked : Asked). asked.window)
          (cond (nat_le asked.to n) (part_to_look views number file others) None)) (sym h.shows.long)

-- a reading shows what the views of its handle show
pub fetches_show : FetchesShow
fetches_show = record {
  done = all_read;
  look = looks;
  block = λ blocks views all f b next is. needs blocks views f.block f.begun f.parts all f.read b next is.begun is.read;
  same = λ g v views count number offset len file handle read some low small held is.
      same_read g v views count number file handle held (asked_parts offset len) read
      (parts_within offset len some low small) is;
  sized = handle_sized;
  block_sized = λ sizes views block all b sized of. named_sized sizes block of.view.list b
      (sized.sized of.window of.view of.seen) of.named;
  same_look = λ g v views count number file handle all held. same_needed g v views count number file handle held all;
}
