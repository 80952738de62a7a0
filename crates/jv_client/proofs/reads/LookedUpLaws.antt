-- What is looked up as a reading goes ahead.
use Rattle.std.proofs.Common.{◌≡◌, ℕ, List, [], Option, None, Some, refl, sym, ap, subst, ◌∙◌}
use Rattle.std.specs.Prelude.{IfSome, IsErr, IsSome, Result, Ok, Err, unwrap_or}
use Rattle.jv_model.specs.declared.profile.Does.{Does}
use Rattle.jv_model.specs.declared.profile.Does.TheVariants as does
use Rattle.jv_model.specs.promise.client.ModelClient.{file_of}
use Rattle.jv_model.specs.promise.client.Profile.{handle_of}
use Rattle.jv_model.specs.promise.journal.Reading.{Asked, asked_parts}
use Rattle.jv_model.specs.promise.journal.Steps.{asked_of}
use Rattle.jv_cache.specs.Cached.{Cached}
use Rattle.jv_client_handles.specs.declared.handle.Handle.{Handle}
use Rattle.jv_client_handles.specs.Views.{SeenViews, no_views}
use Rattle.jv_client_reads.specs.declared.begun.Begun.{Begun}
use Rattle.jv_client_reads.specs.declared.need.Need.{Need}
use Rattle.jv_client_reads.specs.declared.need.Need.TheVariants.{Nothing}
use Rattle.jv_client_reads.specs.Ahead.{ahead_of, blocks_ahead, parts_blocks}
use Rattle.jv_client_reads.specs.Calls.{AsksSome, Wants}
use Rattle.jv_client_reads.specs.Fetching.{Fetching, begins}
use Rattle.jv_client_reads.proofs.CacheLaws.{LooksUp, for_looks}
use Rattle.jv_client.specs.declared.doing.Doing.{Doing}
use Rattle.jv_client.specs.declared.doing.Progress.{Progress}
use Rattle.jv_client.specs.declared.doing.Progress.TheVariants.{Working, Reading}
use Rattle.jv_client.specs.declared.reading.Ahead.{Ahead}
use Rattle.jv_client.specs.ClientValue.{ClientValue}
use Rattle.jv_client.specs.Reading.{LooksOn, OnlyLooksUp, ahead_from, came, fetch_at, fetch_from, need_at, next_of, views_here}
use Rattle.jv_client.specs.Reading.{views_in, views_of}

pub looks-on : (views : SeenViews) (fetch : Fetching) (to : Option Ahead) (before after : Cached)
    → LooksOn views fetch to before after → LooksUp before after
looks-on views fetch None before after (rest, asks) = for_looks Nothing before after asks.looks
looks-on views fetch (Some ahead) before after asks = for_looks (next_of ahead) before after asks.looks

-- after an error some blocks were looked up
pub err-looks : {E : Type 0} (views : SeenViews) (fetch : Fetching) (result : Result Ahead E) (before after : Cached)
    → IsErr result → AsksSome (blocks_ahead views fetch) before after → LooksOn views fetch (came result) before after
err-looks views fetch (Ok ahead) before after err some = absurd (cc err)
err-looks views fetch (Err e) before after err some = some

-- ---- what is ahead

-- of a reading that has read all
pub none-ahead : (views : SeenViews) (fetch : Fetching) (next : Need) → next ≡ Nothing → Wants views fetch next
    → blocks_ahead views fetch ≡ []
none-ahead views fetch next none wants =
    let over : Wants views fetch Nothing = subst (Wants views fetch) none wants in
    ap (λ (begun : Option Begun). ahead_of views fetch.block begun fetch.parts) over.0
    ∙ ap (λ (parts : List Asked). parts_blocks views fetch.block parts) over.1

-- of one that has read nothing yet
not-reading : (p : Progress) → need_at p ≡ None → fetch_at p ≡ None
not-reading (Working quiets started id) none = refl
not-reading (Reading fetch next) none = absurd (cc none)

pub from-start : (block : ℕ) (h : ClientValue) (d : Doing) (offset len : ℕ) (file : Handle) → need_at d.progress ≡ None
    → d.does ≡ does.Reads offset len → file_of h.handles (handle_of d.op) ≡ Some file
    → ahead_from block h d ≡ blocks_ahead file.views (begins block (asked_parts offset len))
from-start block h d offset len file first is opened =
    ap (λ (o : Option Handle). blocks_ahead (views_of o) (fetch_from block d)) opened
    ∙ ap (λ (o : Option Fetching). blocks_ahead file.views (unwrap_or o (begins block (asked_of d.does))))
    (not-reading d.progress first)
    ∙ ap (λ (x : Does). blocks_ahead file.views (begins block (asked_of x))) is

-- by the views of its handle
pub views-in : (h : ClientValue) (d : Doing) (file : Handle) → h.doing ≡ Some d
    → file_of h.handles (handle_of d.op) ≡ Some file → views_in h ≡ file.views
views-in h d file busy opened =
    ap (λ (o : Option Doing). elim o [ None ↦ no_views | Some d ↦ views_here h.handles d.op ]) busy ∙ ap views_of opened

-- so by these were looked up what was
pub only-looks : (fetch : Fetching) (to : Option Ahead) (h : ClientValue) (handle : ℕ) (file : Handle)
    (cache later : Cached) → IsSome h.doing → IfSome h.doing (λ d. handle ≡ handle_of d.op)
    → file_of h.handles handle ≡ Some file → h.cache ≡ Some cache → LooksOn file.views fetch to cache later
    → OnlyLooksUp fetch to h (record h { cache = Some later })
only-looks fetch to h handle file cache later busy names opened was looks = record {
  cache = cache;
  later = later;
  was = was;
  looks = subst (λ (views : SeenViews). LooksOn views fetch to cache later) (sym (by_doing h.doing refl busy names)) looks;
  after_is = refl;
}
  where
    by_doing : (o : Option Doing) → h.doing ≡ o → IsSome o → IfSome o (λ d. handle ≡ handle_of d.op)
        → views_in h ≡ file.views
    by_doing None e some named = absurd (cc some)
    by_doing (Some d) e some named =
        views-in h d file e (ap (file_of h.handles) (sym named) ∙ opened)
