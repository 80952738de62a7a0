-- The segment that is committed next: its inode is one of the pending bytes'.
use Rattle.std.proofs.Common.{◌≡◌, ℕ, List, [], ◌∷◌}
use Rattle.std.proofs.Common.{Option, None, Some, refl, sym, ap, subst, ◌∙◌}
use Rattle.std.specs.Prelude.{◌==◌}
use Rattle.std.specs.List.{AllByRecursion}
use Rattle.jv_model.specs.promise.client.Pending.{PendingByte, Segment, first_segment, pending_of}
use Rattle.jv_model.specs.promise.client.Submission.{next_segment, segment_of_files}
use Rattle.jv_model.specs.promise.client.ModelClient.{Flush as ModelFlush, OfFiles, OfAll}
use Rattle.jv_pending.proofs.SegmentLaws.{own_segment}
use Rattle.jv_client.specs.declared.doing.Flush.{Flush}
use Rattle.jv_client.specs.declared.doing.Flush.TheVariants as flush
use Rattle.jv_client.specs.Held.{segment_left}
use Rattle.jv_model.proofs.ListLaws.{all_filter}

-- the inode of a segment

module _ (P : ℕ → Type 0) where
  abbrev OfBytes : List PendingByte → Type 0
  OfBytes = AllByRecursion (λ (b : PendingByte). P b.inode)

  first-of : (bytes : List PendingByte) (segment : Segment) → first_segment bytes ≡ Some segment → OfBytes bytes
      → P segment.inode
  first-of [] segment e all = absurd (cc e)
  first-of (byte ∷ bytes) segment e all =
      subst P (let same : ◌≡◌ {A = Option Segment} (first_segment (byte ∷ bytes)) (Some segment) = e in cc) all.0

  of_file : (inode : ℕ) (bytes : List PendingByte) (segment : Segment) (others : Option Segment) (o : Option Segment)
      → first_segment (pending_of inode bytes) ≡ o
      → elim o as (λ _. Option Segment) [ None ↦ others | Some segment ↦ Some segment ] ≡ Some segment → OfBytes bytes
      → (others ≡ Some segment → P segment.inode) → P segment.inode
  of_file inode bytes segment others None is e all other = other e
  of_file inode bytes segment others (Some first) is e all other =
      first-of (pending_of inode bytes) segment (is ∙ e) (all_filter (λ (b : PendingByte). P b.inode) (λ b. b.inode == inode) bytes all)

  of_files : (inodes : List ℕ) (bytes : List PendingByte) (segment : Segment)
      → segment_of_files inodes bytes ≡ Some segment → OfBytes bytes → P segment.inode
  of_files [] bytes segment e all = absurd (cc e)
  of_files (inode ∷ inodes) bytes segment e all =
      of_file inode bytes segment (segment_of_files inodes bytes) (first_segment (pending_of inode bytes)) refl e all
      (λ other. of_files inodes bytes segment other all)

  -- it is one of the pending bytes'
  pub segment-of : (flush : ModelFlush) (bytes : List PendingByte) (segment : Segment)
      → next_segment flush bytes ≡ Some segment → OfBytes bytes → P segment.inode
  segment-of (OfFiles inodes) bytes segment e all = of_files inodes bytes segment e all
  segment-of OfAll bytes segment e all = first-of bytes segment e all

one_segment : (o : Option Segment) → elim o as (λ _. Option Segment) [ None ↦ None | Some segment ↦ Some segment ] ≡ o
one_segment None = refl
one_segment (Some segment) = refl

-- where the file of a handle is flushed, it is that file's
pub own_file : (first : Flush) (inode : ℕ) (pending : List PendingByte) (segment : Segment) → first ≡ flush.File inode
    → segment_left first pending ≡ Some segment → segment.inode ≡ inode
own_file first inode pending segment e found =
    own_segment inode pending segment (sym (one_segment (first_segment (pending_of inode pending)))
    ∙ sym (ap (λ f. segment_left f pending) e) ∙ found)
