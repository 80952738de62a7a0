-- The pending bytes that a flush covers: its next segment is of them, and once that is committed they are fewer by its
-- bytes.
use Rattle.std.proofs.Common.{◌≡◌, ℕ, ◌+◌, ◌≤◌, ◌<◌, Bool, true, false, not, List, [], ◌∷◌, length, filter}
use Rattle.std.proofs.Common.{Option, None, Some, refl, sym, ap, subst, ◌∙◌, arith}
use Rattle.std.specs.Prelude.{◌==◌, ◌||◌, ◌%◌, if◌then◌else◌}
use Rattle.std.proofs.lemmas.Bool.{eq-eqb, eqb-true, or_right}
use Rattle.std.proofs.lemmas.Bool.Decides.{nat_tests}
use Rattle.std.proofs.lemmas.List.{length-map}
use Rattle.jv_model.specs.declared.limits.TheConstants.{WINDOW}
use Rattle.jv_model.specs.promise.client.Pending.{PendingByte, Segment, first_segment, is_in_range, pending_of, run_length, stands_at}
use Rattle.jv_model.specs.promise.client.Pending.{without_range}
use Rattle.jv_model.specs.promise.client.ModelClient.{Flush as ModelFlush, OfFiles, OfAll}
use Rattle.jv_model.specs.promise.client.Submission.{next_segment, segment_of_files}
use Rattle.jv_model.specs.promise.Lists.{is_among}
use Rattle.jv_pending.proofs.SegmentLaws.{own_segment}
use Rattle.jv_client.specs.declared.doing.Flush.{Flush}
use Rattle.jv_client.specs.Flushing.{bytes_of}
use Rattle.jv_client.specs.Held.{flush_of_code, segment_left}
use Rattle.jv_client.specs.UnderWay.{covered, covers}

-- ---- one filter that keeps what another keeps

module _ (p q : PendingByte → Bool) (within : (b : PendingByte) → p b ≡ true → q b ≡ true) where
  -- it keeps no fewer bytes
  kept-less : (bytes : List PendingByte) → length (filter p bytes) ≤ length (filter q bytes)
  kept-less [] = omega arith
  kept-less (b ∷ bytes) = by_tests (p b) (q b) (within b) (kept-less bytes)
    where
      by_tests : (x y : Bool) → (x ≡ true → y ≡ true) → length (filter p bytes) ≤ length (filter q bytes)
          → length (if x then b ∷ filter p bytes else filter p bytes)
          ≤ length (if y then b ∷ filter q bytes else filter q bytes)
      by_tests true true both less = omega (arith, less)
      by_tests true false both less = absurd (cc (both refl))
      by_tests false true both less = omega (arith, less)
      by_tests false false both less = less

  -- and of the bytes that the other leaves out as many fewer as that keeps
  abbrev left_out : List PendingByte → List PendingByte
  left_out = filter (λ b. not (p b))

  first-kept : (b : PendingByte) (bytes : List PendingByte) (y : Bool) → q b ≡ y
      → length (filter q (left_out bytes)) + length (filter p bytes) ≡ length (filter q bytes)
      → length (filter q (b ∷ left_out bytes)) + length (filter p bytes)
      ≡ length (if y then b ∷ filter q bytes else filter q bytes)
  first-kept b bytes true is same =
      let first : length (filter q (b ∷ left_out bytes)) ≡ length (b ∷ filter q (left_out bytes)) =
      ap (λ t. length (if t then b ∷ filter q (left_out bytes) else filter q (left_out bytes))) is in
      omega (arith, first, same)
  first-kept b bytes false is same =
      let first : length (filter q (b ∷ left_out bytes)) ≡ length (filter q (left_out bytes)) =
      ap (λ t. length (if t then b ∷ filter q (left_out bytes) else filter q (left_out bytes))) is in
      omega (arith, first, same)

  kept-parted : (bytes : List PendingByte)
      → length (filter q (left_out bytes)) + length (filter p bytes) ≡ length (filter q bytes)
  kept-parted [] = omega arith
  kept-parted (b ∷ bytes) = by_tests (p b) (q b) refl (within b) (kept-parted bytes)
    where
      by_tests : (x y : Bool) → q b ≡ y → (x ≡ true → y ≡ true)
          → length (filter q (left_out bytes)) + length (filter p bytes) ≡ length (filter q bytes)
          → length (filter q (if not x then b ∷ left_out bytes else left_out bytes))
          + length (if x then b ∷ filter p bytes else filter p bytes)
          ≡ length (if y then b ∷ filter q bytes else filter q bytes)
      by_tests true true is both same = omega (arith, same)
      by_tests true false is both same = absurd (cc (both refl))
      by_tests false y is both same = first-kept b bytes y is same

-- ---- the next segment is of the bytes that are covered

run-short : (inode position : ℕ) (bytes : List PendingByte) → run_length inode position bytes ≤ length bytes
run-short inode position [] = omega arith
run-short inode position (b ∷ bytes) =
    by_tests (stands_at inode position b) ((position + 1) % WINDOW == 0)
    (run-short inode (position + 1) bytes)
  where
    by_tests : (stands ends : Bool) → run_length inode (position + 1) bytes ≤ length bytes
        → (if stands then (if ends then 1 else 1 + run_length inode (position + 1) bytes) else 0)
        ≤ length (b ∷ bytes)
    by_tests true true less = omega arith
    by_tests true false less = omega (arith, less)
    by_tests false ends less = omega arith

-- it has no more bytes than these, of which there are some
abbrev pub IsOf : Segment → List PendingByte → Type 0
IsOf segment bytes = (segment.len ≤ length bytes) × (0 < length bytes)

first-of : (bytes : List PendingByte) (segment : Segment) → first_segment bytes ≡ Some segment → IsOf segment bytes
first-of [] segment e = absurd (cc e)
first-of (b ∷ bytes) segment e =
    let here : Segment =
    record { inode = b.inode; from = b.position; len = run_length b.inode b.position (b ∷ bytes) } in
    let same : here ≡ segment = (let f : ◌≡◌ {A = Option Segment} (Some here) (Some segment) = e in cc) in
    subst (λ (segment : Segment). IsOf segment (b ∷ bytes)) same
    (run-short b.inode b.position (b ∷ bytes), omega arith)

-- of a flush of the model
abbrev covered_of : ModelFlush → List PendingByte → List PendingByte
covered_of first = filter (λ b. covers first b.inode)

-- its file is one that the flush covers, and it has no more bytes than are covered
record IsCovered (first : ModelFlush) (segment : Segment) (bytes : List PendingByte) : Type 0 where
  pub file : covers first segment.inode ≡ true
  pub short : segment.len ≤ length (covered_of first bytes)
  pub some : 0 < length (covered_of first bytes)

-- one of some files, and of one more
own-among : (inode own : ℕ) (inodes : List ℕ) → own ≡ inode → is_among own (inode ∷ inodes) ≡ true
own-among inode own inodes same = ap (λ b. b || is_among own inodes) (eq-eqb inode own (sym same))

other-among : (inode own : ℕ) (inodes : List ℕ) → is_among own inodes ≡ true → is_among own (inode ∷ inodes) ≡ true
other-among inode own inodes among = or_right (inode == own) (is_among own inodes) among

module _ (bytes : List PendingByte) (segment : Segment) where
  own-covered : (inode : ℕ) (inodes : List ℕ) → first_segment (pending_of inode bytes) ≡ Some segment
      → IsCovered (OfFiles (inode ∷ inodes)) segment bytes
  own-covered inode inodes e =
      let own = first-of (pending_of inode bytes) segment e in
      let short = own.0 in
      let some = own.1 in
      let less : length (pending_of inode bytes) ≤ length (covered_of (OfFiles (inode ∷ inodes)) bytes) =
      kept-less (λ b. b.inode == inode) (λ b. covers (OfFiles (inode ∷ inodes)) b.inode)
      (λ b here. own-among inode b.inode inodes (eqb-true b.inode inode here)) bytes in
      record {
        file = own-among inode segment.inode inodes (own_segment inode bytes segment e);
        short = omega (arith, short, less);
        some = omega (arith, some, less);
      }

  other-covered : (inode : ℕ) (inodes : List ℕ) → IsCovered (OfFiles inodes) segment bytes
      → IsCovered (OfFiles (inode ∷ inodes)) segment bytes
  other-covered inode inodes others =
      let short = others.short in
      let some = others.some in
      let less : length (covered_of (OfFiles inodes) bytes) ≤ length (covered_of (OfFiles (inode ∷ inodes)) bytes) =
      kept-less (λ b. covers (OfFiles inodes) b.inode) (λ b. covers (OfFiles (inode ∷ inodes)) b.inode)
      (λ b among. other-among inode b.inode inodes among) bytes in
      record {
        file = other-among inode segment.inode inodes others.file;
        short = omega (arith, short, less);
        some = omega (arith, some, less);
      }

  files-covered : (inodes : List ℕ) → segment_of_files inodes bytes ≡ Some segment
      → IsCovered (OfFiles inodes) segment bytes
  files-covered [] e = absurd (cc e)
  files-covered (inode ∷ inodes) e =
      by_first (first_segment (pending_of inode bytes)) refl e (files-covered inodes)
    where
      by_first : (o : Option Segment) → first_segment (pending_of inode bytes) ≡ o
          → elim o as (λ _. Option Segment) [ None ↦ segment_of_files inodes bytes | Some segment ↦ Some segment ]
          ≡ Some segment
          → (segment_of_files inodes bytes ≡ Some segment → IsCovered (OfFiles inodes) segment bytes)
          → IsCovered (OfFiles (inode ∷ inodes)) segment bytes
      by_first None is e others = other-covered inode inodes (others e)
      by_first (Some first) is e others = own-covered inode inodes (is ∙ e)

  segment-covered : (first : ModelFlush) → next_segment first bytes ≡ Some segment → IsCovered first segment bytes
  segment-covered (OfFiles inodes) e = files-covered inodes e
  segment-covered OfAll e =
      let all = first-of bytes segment e in
      let short = all.0 in
      let some = all.1 in
      let less : length bytes ≤ length (covered_of OfAll bytes) = all-covered bytes in
      record { file = refl; short = omega (arith, short, less); some = omega (arith, some, less) }
    where
      all-covered : (bytes : List PendingByte) → length bytes ≤ length (covered_of OfAll bytes)
      all-covered [] = omega arith
      all-covered (b ∷ bytes) = let less = all-covered bytes in omega (arith, less)

-- the bytes of its range are covered with it
range-own : (inode from len : ℕ) (b : PendingByte) → is_in_range inode from len b ≡ true → b.inode ≡ inode
range-own inode from len b e = grind (arith, nat_tests)

module _ (first : Flush) (segment : Segment) (pending : List PendingByte)
    (next : segment_left first pending ≡ Some segment) where
  of_it : IsCovered (flush_of_code first) segment pending
  of_it = segment-covered pending segment (flush_of_code first) next

  pub segment-short : IsOf segment (covered first pending)
  segment-short = (of_it.short, of_it.some)

  -- Without it as many fewer are covered as it had.
  pub covered-without : length (covered first (without_range segment.inode segment.from segment.len pending))
      + length (bytes_of segment pending) ≡ length (covered first pending)
  covered-without =
      let own : PendingByte → Bool = is_in_range segment.inode segment.from segment.len in
      ap (λ n. length (covered first (without_range segment.inode segment.from segment.len pending)) + n)
      (length-map (filter own pending) (λ (b : PendingByte). b.byte))
      ∙ kept-parted own (λ b. covers (flush_of_code first) b.inode)
      (λ b in_it. ap (covers (flush_of_code first)) (range-own segment.inode segment.from segment.len b in_it)
      ∙ of_it.file) pending
