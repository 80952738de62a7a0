-- How a range of a file is read as records that show it: pieces of plans, one source window after another.
use Rattle.std.proofs.Common.{◌≡◌, ◌≢◌, ℕ, zero, suc, ◌+◌, ◌-◌, ◌/◌, ◌%◌, ◌<◌, ◌≤◌, ◌^◌, ◌⊎◌, inl, inr, Bool, true, false, cond, List, [], ◌∷◌, ◌++◌, length, take, get_or, Option, None, Some, Ok, Err, refl, sym, ap, subst, ◌∙◌, arith}
use Rattle.std.proofs.Math.Seq.{take-suc}
use Rattle.std.specs.Prelude.{◌==◌, min, All, IfSome}
use Rattle.std.specs.List.{AllByRecursion}
use Rattle.std.proofs.lemmas.Bool.{eqb-false, cases_lt}
use Rattle.std.proofs.lemmas.List.{length-append, append-nil}
use Rattle.std.proofs.lemmas.List.Elements.{All-from_recursion, All-contains}
use Rattle.jv_model.specs.declared.fault.TxFault.{TxFault}
use Rattle.jv_model.specs.declared.limits.TheConstants.{WINDOW}
use Rattle.jv_model.specs.declared.row.Row.TheVariants.{OfList}
use Rattle.jv_model.specs.declared.slice.Piece.{Piece}
use Rattle.jv_model.specs.declared.slice.Rec.{Rec}
use Rattle.jv_model.specs.declared.slice.Spot.{Spot}
use Rattle.jv_model.specs.declared.slice.Spot.TheVariants.{Zero, Slice}
use Rattle.jv_model.specs.promise.FiniteMap.{get}
use Rattle.jv_model.specs.promise.blocks.Slices.{IsRecord, visible, place_by, stored_place}
use Rattle.jv_model.specs.blocks.Slices.{IsPart, IsPlan, IsAsStored}
use Rattle.jv_model.specs.promise.rows.RowGrammar.{is_list}
use Rattle.jv_model.specs.promise.rows.RowKeys.{RowMap}
use Rattle.jv_model.specs.promise.rows.RowPlaces.{list_key}
use Rattle.jv_outside.specs.promise.Store.{Store}
use Rattle.jv_rows.specs.Drafts.{Sees}
use Rattle.jv_rows.specs.Lists.{HasList}
use Rattle.jv_rows.specs.Transactions.{Looks}
use Rattle.jv_rows.proofs.transactions.TransactionLaws.{stands-sees, as_stored}
use Rattle.jv_volume.specs.promise.TypedRows.{Rows, typed}
use Rattle.jv_volume.specs.promise.Views.{lists_of}
use Rattle.jv_volume.specs.promise.Slices.{place_in}
use Rattle.jv_volume_bytes.specs.Fills.{Fills, record_at_spot, records_of_plan}
use Rattle.jv_volume_bytes.specs.Places.{Lists}
use Rattle.jv_volume_bytes.proofs.BlockLaws.{seen_contained}
use Rattle.jv_volume_bytes.proofs.CopyLaws.{source-fills}
use Rattle.jv_volume_bytes.proofs.CutLaws.{all-append}
use Rattle.jv_volume_bytes.proofs.FillLaws.{plan-fills, fills-append, fills-are, fills-some, fills-name}
use Rattle.jv_data.specs.Copying.{pieces_len, ArePieces, IsShown, ShowsRange}
use Rattle.jv_data.specs.Records.{HasRecords}
use Rattle.jv_data.specs.Truncating.{HasSlice, HaveSlices, ChecksSlices}
use Rattle.jv_data.proofs.truncates.TruncateLaws.{looks-start, looks-calm, looks-then}
use Rattle.jv_model.proofs.TestLaws.{if_some-by, of_known}

-- ---- the records of pieces

pieces-append : (xs ys : List Piece) → pieces_len (xs ++ ys) ≡ pieces_len xs + pieces_len ys
pieces-append [] ys = omega arith
pieces-append (x ∷ xs) ys = (let rest = pieces-append xs ys in omega (arith, rest))

plan-append : (xs ys : List Piece) (pos : ℕ) → records_of_plan pos (xs ++ ys) ≡ records_of_plan pos xs ++ records_of_plan (pos + pieces_len xs) ys
plan-append [] ys pos = ap (λ n. records_of_plan n ys) (omega arith)
plan-append (x ∷ xs) ys pos = ap (λ (l : List Rec). record_at_spot pos x.len x.spot ∷ l)
    (plan-append xs ys (pos + x.len) ∙ ap (λ n. records_of_plan (pos + x.len) xs ++ records_of_plan n ys) (omega arith))

plan-push : (xs : List Piece) (x : Piece) (pos at : ℕ) → at ≡ pos + pieces_len xs
    → records_of_plan pos (xs ++ x ∷ []) ≡ records_of_plan pos xs ++ record_at_spot at x.len x.spot ∷ []
plan-push xs x pos at is = plan-append xs (x ∷ []) pos ∙ ap (λ n. records_of_plan pos xs ++ record_at_spot n x.len x.spot ∷ []) (sym is)

-- one more piece
take-more : (pieces : List Piece) (i : ℕ) (piece none : Piece) → i < length pieces → piece ≡ get_or pieces i none
    → take (i + 1) pieces ≡ take i pieces ++ piece ∷ []
take-more pieces i piece none low is = ap (λ n. take n pieces) one_more ∙ take-suc pieces i none low ∙ ap (λ x. take i pieces ++ x ∷ []) (sym is)
  where
    one_more : i + 1 ≡ suc i
    one_more = omega arith

pub pieces-next : (pieces : List Piece) (i : ℕ) (piece none : Piece) → i < length pieces → piece ≡ get_or pieces i none
    → pieces_len (take (i + 1) pieces) ≡ pieces_len (take i pieces) + piece.len
pieces-next pieces i piece none low is =
    (let more = ap pieces_len (take-more pieces i piece none low is) in
    let sum = pieces-append (take i pieces) (piece ∷ []) in
    omega (arith, more, sum))

pub plan-next : (pieces : List Piece) (i : ℕ) (piece none : Piece) (pos at : ℕ) → i < length pieces → piece ≡ get_or pieces i none
    → at ≡ pos + pieces_len (take i pieces)
    → records_of_plan pos (take (i + 1) pieces) ≡ records_of_plan pos (take i pieces) ++ record_at_spot at piece.len piece.spot ∷ []
plan-next pieces i piece none pos at low is reached =
    ap (records_of_plan pos) (take-more pieces i piece none low is) ∙ plan-push (take i pieces) piece pos at reached

pub pieces-take : (pieces : List Piece) (n : ℕ) → pieces_len (take n pieces) ≤ pieces_len pieces
pieces-take [] zero = omega arith
pieces-take [] (suc n) = omega arith
pieces-take (x ∷ xs) zero = omega arith
pieces-take (x ∷ xs) (suc n) = (let rest = pieces-take xs n in omega (arith, rest))

-- a plan's pieces are as long as its range
pub plan-len : (list : List Rec) (to : ℕ) (pieces : List Piece) (from : ℕ) → IsPlan list from to pieces → from + pieces_len pieces ≡ to
plan-len list to [] from e = omega (arith, e)
plan-len list to (x ∷ xs) from (begins, is, rest) = (let more = plan-len list to xs (from + x.len) rest in omega (arith, more))

-- and an empty range has none
plan-none : (list : List Rec) (from to : ℕ) (pieces : List Piece) → to ≤ from → IsPlan list from to pieces → pieces ≡ []
plan-none list from to [] none e = refl
plan-none list from to (x ∷ xs) none (begins, is, rest) = (let some = is.some in let within = is.within in absurd (omega (arith, none, begins, some, within)))

plan-as : (l m : List Rec) (a b c d : ℕ) (pieces : List Piece) → l ≡ m → a ≡ b → c ≡ d → IsPlan l a c pieces → IsPlan m b d pieces
plan-as l m a b c d pieces lists begins ends plan =
    subst (λ (x : List Rec). IsPlan x b d pieces) lists
    (subst (λ (n : ℕ). IsPlan l n d pieces) begins
    (subst (λ (n : ℕ). IsPlan l a n pieces) ends plan))

-- ---- the pieces of a range, cut at the windows of its file

module _ (lists : Lists) (from pos : ℕ) where
  pub pieces-none : ArePieces lists from pos 0 []
  pieces-none = record { first = []; next = []; first_plan = omega arith; next_plan = omega arith; is = refl }

  -- those of one more window
  pub pieces-then : (done part : ℕ) (list : List Rec) → ArePieces lists from pos done list → (0 < done → from % WINDOW + done ≡ WINDOW)
      → (source : List Rec) (window begin : ℕ) (pieces : List Piece) → window ≡ (from + done) / WINDOW → begin ≡ (from + done) % WINDOW
      → begin + part ≤ WINDOW → source ≡ lists window → IsPlan source begin (begin + part) pieces
      → ArePieces lists from pos (done + part) (list ++ records_of_plan (pos + done) pieces)
  pieces-then done part list was cut source window begin pieces window_is begin_is inside source_is plan = by_done (cases_lt 0 done)
    where
      low : from % WINDOW < WINDOW
      low = omega arith

      by_done : (0 < done) ⊎ (done ≤ 0) → ArePieces lists from pos (done + part) (list ++ records_of_plan (pos + done) pieces)
      by_done (inr none_yet) =
          let none : was.first ≡ [] = plan-none (lists (from / WINDOW)) (from % WINDOW) (min (from % WINDOW + done) WINDOW) was.first (omega (arith, none_yet)) was.first_plan in
          let no_more : was.next ≡ [] = plan-none (lists (from / WINDOW + 1)) 0 (from % WINDOW + done - WINDOW) was.next (omega (arith, none_yet, low)) was.next_plan in
          let empty : list ≡ [] = was.is ∙ (λ i. records_of_plan pos (none i ++ no_more i)) in
          record {
            first = pieces;
            next = [];
            first_plan = plan-as source (lists (from / WINDOW)) begin (from % WINDOW) (begin + part) (min (from % WINDOW + (done + part)) WINDOW) pieces
                (source_is ∙ ap lists (omega (arith, none_yet, window_is))) (omega (arith, none_yet, begin_is)) (omega (arith, none_yet, begin_is, inside)) plan;
            next_plan = omega (arith, none_yet, begin_is, inside);
            is = ap (λ (l : List Rec). l ++ records_of_plan (pos + done) pieces) empty ∙ ap (λ n. records_of_plan n pieces) (omega (arith, none_yet))
                ∙ ap (records_of_plan pos) (sym (append-nil pieces));
          }
      by_done (inl some) =
          let full = cut some in
          let long = plan-len (lists (from / WINDOW)) (min (from % WINDOW + done) WINDOW) was.first (from % WINDOW) was.first_plan in
          let same : done ≡ pieces_len was.first = omega (arith, full, long) in
          let no_more : was.next ≡ [] = plan-none (lists (from / WINDOW + 1)) 0 (from % WINDOW + done - WINDOW) was.next (omega (arith, full)) was.next_plan in
          record {
            first = was.first;
            next = pieces;
            first_plan = subst (λ (n : ℕ). IsPlan (lists (from / WINDOW)) (from % WINDOW) n was.first) (omega (arith, full)) was.first_plan;
            next_plan = plan-as source (lists (from / WINDOW + 1)) begin 0 (begin + part) (from % WINDOW + (done + part) - WINDOW) pieces
                (source_is ∙ ap lists (omega (arith, full, window_is))) (omega (arith, full, begin_is)) (omega (arith, full, begin_is)) plan;
            is = ap (λ (l : List Rec). l ++ records_of_plan (pos + done) pieces)
                (was.is ∙ ap (λ (ps : List Piece). records_of_plan pos (was.first ++ ps)) no_more ∙ ap (records_of_plan pos) (append-nil was.first))
                ∙ ap (λ n. records_of_plan pos was.first ++ records_of_plan (pos + n) pieces) same ∙ sym (plan-append was.first pieces pos);
          }

-- a range that goes on after a window goes on where the next one begins
pub cut-next : (from len done part : ℕ) → (0 < done → done < len → from % WINDOW + done ≡ WINDOW) → len ≤ WINDOW
    → part ≡ min (len - done) (WINDOW - (from + done) % WINDOW) → done + part < len → from % WINDOW + (done + part) ≡ WINDOW
cut-next from len done part cut short is less = elim (cases_lt 0 done) [
  | inl some ↦ (let full = cut some (omega (arith, less)) in absurd (omega (arith, full, short, is, less)))
  | inr none_yet ↦ omega (arith, none_yet, is, less)
]

-- ---- a window's records whose slices have rows

module _ (inode window : ℕ) (low : window < 2 ^ 32) (before read : Store) (list : List Rec) (s : Sees OfList is_list (list_key inode window) [] before read (Ok (Some list))) where
  pub named-there : HasList read inode (window, list)
  named-there = if_some-by (λ known. get (typed known) (list_key inode window) ≡ Some (Ok (OfList list))) read.rows (λ known is.
      stands-sees OfList is_list (list_key inode window) [] before read (as_stored (list_key inode window) before) (Some list) s known
      (sym s.rows_are ∙ is))

  calm : Looks {A = Unit {0}} before read (Ok tt) (λ t. Ok tt)
  calm = looks-calm before read s.rows_are s.opened_at s.counts

  pub named-read : HasRecords inode window before read (Ok list) → (after : Store) → ChecksSlices list read after (Ok tt) → HasRecords inode window before after (Ok list)
  named-read h after z = record { looks = looks-then before read after (Ok tt) calm z.looks; list = h.list; records = h.records; formed = h.formed }

-- what a list shows of a slice has a row, where all its slices have
shown_slice : (rows : Rows) (l : List Rec) → HaveSlices rows l → (q id size at : ℕ) → stored_place l q ≡ Slice id size at → HasSlice rows id
unfolding stored_place
shown_slice rows l have q id size at e = by_record (visible l q) refl e
  where
    by_id : (r : Rec) → visible l q ≡ Some r → (zero : Bool) → (r.id == 0) ≡ zero → cond zero Zero (Slice r.id r.size (r.off + (q - r.pos))) ≡ Slice id size at → HasSlice rows id
    by_id r seen true z f = absurd (cc)
    by_id r seen false z f =
        let same : r.id ≡ id = cc in
        subst (HasSlice rows) same
        (All-contains (λ (x : Rec). x.id ≢ 0 → HasSlice rows x.id) l r (All-from_recursion (λ (x : Rec). x.id ≢ 0 → HasSlice rows x.id) l have) (seen_contained l q r seen)
        (eqb-false r.id 0 z))

    by_record : (o : Option Rec) → visible l q ≡ o → place_by o q ≡ Slice id size at → HasSlice rows id
    by_record None seen f = absurd (cc)
    by_record (Some r) seen f = by_id r seen (r.id == 0) refl f

-- ---- one source window after another

-- `done` positions of a range were read
pub record IsShowing (inode from pos : ℕ) (before now : Store) (done : ℕ) (list : List Rec) : Type 0 where
  pub looks : Looks {A = Unit {0}} before now (Ok tt) (λ t. Ok tt)
  pub records : AllByRecursion IsRecord list
  pub some : 0 < done → 0 < length list
  pub shows : (known : RowMap) → before.rows ≡ Some known → IsShown (typed known) inode from pos done list

pub showing-none : (inode from pos : ℕ) (before : Store) (list : List Rec) → list ≡ [] → IsShowing inode from pos before before 0 list
showing-none inode from pos before list none = subst (IsShowing inode from pos before before 0) (sym none) (record {
  looks = looks-start before;
  records = tt;
  some = λ less. absurd (omega (arith, less));
  shows = λ known is. record { fills = omega arith; slices = tt; pieces = pieces-none (lists_of (typed known) inode) from pos };
})

module _ (inode from pos len : ℕ) (before now : Store) (done : ℕ) (list : List Rec) (c : IsShowing inode from pos before now done list) where
  pub showing-all : done ≡ len → ShowsRange inode from pos len before now (Ok list)
  showing-all all = record {
    looks = c.looks;
    records = c.records;
    some = λ less. c.some (subst (λ n. 0 < n) (sym all) less);
    shows = λ known is. subst (λ n. IsShown (typed known) inode from pos n list) all (c.shows known is);
  }

  pub showing-unread : (w : ℕ) (read : Store) (fault : TxFault) → HasRecords inode w now read (Err fault) → ShowsRange inode from pos len before read (Err fault)
  showing-unread w read fault h = record { looks = looks-then before now read (Err fault) c.looks h.looks; records = tt; some = tt; shows = tt }

  -- the next window, by as many positions
  module _ (d : ℕ) (same : d ≡ done) (read : Store) (source : List Rec) (h : HasRecords inode ((from + d) / WINDOW) now read (Ok source)) where
    abbrev window : ℕ
    window = (from + d) / WINDOW

    abbrev begin : ℕ
    begin = (from + d) % WINDOW

    was_read : Looks {A = Unit {0}} before read (Ok tt) (λ t. Ok tt)
    was_read = looks-then before now read (Ok tt) c.looks h.looks

    module _ (named : IfSome now.rows (λ known. HaveSlices (typed known) source)) (part : ℕ) (some : 0 < part) (pieces : List Piece)
        (plan : IsPlan source begin (begin + part) pieces) (stored : All (IsAsStored source) pieces) (parts : All IsPart pieces)
        (inside : begin + part ≤ WINDOW) (small : pos + done + part ≤ WINDOW) (cut : 0 < done → from % WINDOW + done ≡ WINDOW) where
      abbrev at : ℕ
      at = pos + done

      abbrev new : List Rec
      new = records_of_plan at pieces

      abbrev end : ℕ
      end = at + (begin + part - begin)

      abbrev places : ℕ → Spot
      places q = stored_place source (begin + (q - at))

      end_small : end ≤ WINDOW
      end_small = omega (arith, small)

      fills : Fills places at end new
      fills = plan-fills source (begin + part) places pieces begin at plan parts stored (λ k low. ap (stored_place source) (omega arith)) end_small

      shown_now : (known : RowMap) → before.rows ≡ Some known → IsShown (typed known) inode from pos (done + part) (list ++ new)
      shown_now known is =
          let rows = typed known in
          let was = c.shows known is in
          let here : now.rows ≡ Some known = c.looks.rows_are ∙ is in
          let lists = lists_of rows inode in
          let all : ℕ → Spot = (λ q. place_in lists (from + (q - pos))) in
          record {
            fills = fills-append all pos at (pos + (done + part)) list new was.fills
                (subst (λ n. Fills all at n new) (omega arith)
                (source-fills lists window source begin (begin + part) at all pieces
                (of_known (λ known. source ≡ lists_of (typed known) inode window) now.rows known here h.list)
                plan parts stored inside end_small (λ k low. ap (place_in lists) (omega (arith, same)))));
            slices = all-append _ list new was.slices
                (fills-name (λ id size. HasSlice rows id) places at end new fills (λ k id size off low high e.
                shown_slice rows source (of_known (λ known. HaveSlices (typed known) source) now.rows known here named) (begin + (k - at)) id size off e));
            pieces = pieces-then lists from pos done part list was.pieces cut source window begin pieces
                (ap (λ n. (from + n) / WINDOW) same) (ap (λ n. (from + n) % WINDOW) same) inside
                (of_known (λ known. source ≡ lists_of (typed known) inode window) now.rows known here h.list) plan;
          }

      pub showing-more : (more : List Rec) → more ≡ list ++ new → IsShowing inode from pos before read (done + part) more
      showing-more more is = subst (IsShowing inode from pos before read (done + part)) (sym is) (record {
        looks = was_read;
        records = all-append IsRecord list new c.records (fills-are places at end new fills);
        some = λ less.
            (let one = fills-some places at end new fills (omega (arith, some)) in
            let all = length-append list new in
            omega (arith, one, all));
        shows = shown_now;
      })
