-- Which operations don't ask for the numbers of the cache.
use Rattle.std.proofs.Common.{◌≡◌, ℕ, false, Option, None, Some, sym, ap, ◌∙◌}
use Rattle.std.specs.Prelude.{IfSome, IsTrue}
use Rattle.jv_model.specs.declared.profile.Does.{Does}
use Rattle.jv_model.specs.promise.client.Pending.{Segment}
use Rattle.jv_client_reads.specs.declared.need.Need.{Need}
use Rattle.jv_client.specs.declared.doing.Doing.{Doing}
use Rattle.jv_client.specs.declared.doing.Progress.{Progress}
use Rattle.jv_client.specs.declared.doing.Progress.TheVariants.{Reading, Working}
use Rattle.jv_client.specs.declared.made.Made.{Made}
use Rattle.jv_client.specs.ClientValue.{ClientValue}
use Rattle.jv_client.specs.Held.{segment_left}
use Rattle.jv_client.specs.Reading.{need_at, need_in}
use Rattle.jv_client.specs.Stats.{AnswersStats, IsStatsOf}
use Rattle.jv_client.specs.UnderWay.{Closes, Describes, FlushesFor, Reads, ReadsNothing, Syncs, Truncates}
use Rattle.jv_client.specs.UnderWay.{Copies, Flushes, IsForm, Leaves, Mounts, SaysStats, Transacts, Writes}
use Rattle.jv_client.specs.UnderWay.{IsAt, IsReady, IsUnderWay, does_of, left, left_of, says_stats}

module _ (h : ClientValue) (done : Made) where
  other_in : (o : Option Doing) → IfSome o (λ (d : Doing). says_stats d.does ≡ false)
      → IfSome o (λ (d : Doing). IsTrue (says_stats d.does) → IsStatsOf h done)
  other_in None other = tt
  other_in (Some d) other = λ says. absurd (cc (sym other ∙ says))

  pub stats-other : IfSome h.doing (λ (d : Doing). says_stats d.does ≡ false) → AnswersStats h done
  stats-other other = other_in h.doing other

  -- by what the operation does
  does_in : (o : Option Doing) (does : Does) → does_of o ≡ Some does → says_stats does ≡ false
      → IfSome o (λ (d : Doing). says_stats d.does ≡ false)
  does_in None does is other = tt
  does_in (Some d) does is other =
      let same : d.does ≡ does = (let both : Some d.does ≡ Some does = is in cc both) in
      ap says_stats same ∙ other

  pub stats-does : (does : Does) → does_of h.doing ≡ Some does → says_stats does ≡ false → AnswersStats h done
  stats-does does is other = stats-other (does_in h.doing does is other)

  -- a reading
  at_in : (d : Doing) (next : Need) (p : Progress) → IsAt h d p → need_at p ≡ Some next → says_stats d.does ≡ false
  at_in d next (Working quiets started id) at need = absurd (cc need)
  at_in d next (Reading fetch other) at need = ap says_stats at.read.2

  need_of : (next : Need) (o : Option Doing) → IfSome o (IsUnderWay h) → need_in o ≡ Some next
      → IfSome o (λ (d : Doing). says_stats d.does ≡ false)
  need_of next None way need = tt
  need_of next (Some d) way need = at_in d next d.progress way.at need

  pub stats-reading : (next : Need) → IsReady h → need_in h.doing ≡ Some next → AnswersStats h done
  stats-reading next ready need = stats-other (need_of next h.doing ready.doing need)

  -- one that still flushes
  module _ (segment : Segment) (d : Doing) (next : segment_left d.flush h.pending ≡ Some segment) where
    by_reason : (handle : ℕ) → FlushesFor d handle → says_stats d.does ≡ false
    by_reason handle (Closes o e) = ap says_stats e
    by_reason handle (Syncs o e) = ap says_stats e
    by_reason handle (Describes o e) = ap says_stats e
    by_reason handle (ReadsNothing offset len o e) = ap says_stats e
    by_reason handle (Reads offset len o e some few low) = ap says_stats e
    by_reason handle (Truncates len o e) = ap says_stats e

    by_form : IsForm h d → says_stats d.does ≡ false
    by_form (Mounts o e first) = ap says_stats e
    by_form (Transacts one spelled e first session) = ap says_stats e
    by_form (Leaves o e first session) = ap says_stats e
    by_form (Writes handle offset bytes file o e opened short room session) = ap says_stats e
    by_form (Flushes handle file for first opened session) = by_reason handle for
    by_form (Copies source from target to len file other o e first opened there session) = ap says_stats e
    by_form (SaysStats o e first session) =
        absurd (let none = ap (λ f. segment_left f h.pending) first in cc (sym next ∙ none))

  left_in : (segment : Segment) (o : Option Doing) → IfSome o (IsUnderWay h) → left_of h.pending o ≡ Some segment
      → IfSome o (λ (d : Doing). says_stats d.does ≡ false)
  left_in segment None way next = tt
  left_in segment (Some d) way next = by_form segment d next way.form

  pub stats-flushing : (segment : Segment) → IsReady h → left h ≡ Some segment → AnswersStats h done
  stats-flushing segment ready next = stats-other (left_in segment h.doing ready.doing next)

-- the numbers that were answered
pub stats-told : (h : ClientValue) (done : Made) → IsStatsOf h done → AnswersStats h done
stats-told h done numbers = by_doing h.doing
  where
    by_doing : (o : Option Doing) → IfSome o (λ (d : Doing). IsTrue (says_stats d.does) → IsStatsOf h done)
    by_doing None = tt
    by_doing (Some d) = λ says. numbers
