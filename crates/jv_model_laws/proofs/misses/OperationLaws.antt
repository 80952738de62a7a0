-- What an operation in progress does stays what it was submitted for.
use Rattle.std.proofs.Common.{◌≡◌, ℕ, Bool, true, false, if◌then◌else◌, inl, inr, List, ◌∷◌, ◌++◌, Option, None, Some, refl, sym, subst}
use Rattle.std.proofs.lemmas.Bool.Decides.{eqb_tells}
use Rattle.jv_model.specs.declared.act.Act.{Act}
use Rattle.jv_model.specs.declared.act.ActKind.{ActKind}
use Rattle.jv_model.specs.declared.act.ActKind.TheVariants.{Mounted, Meta, Opened, Look, Commit, Truncated, Copied, Compacted, Settled, Expired, Purged, Cleaned, Quiet, Miss, Crashed, Ticked, Answered}
use Rattle.jv_model.specs.declared.act.Told.{Told}
use Rattle.jv_model.specs.declared.act.Told.TheVariants.{Fine, Looks, Refused as ToldRefused}
use Rattle.jv_model.specs.declared.basics.Limits.{Limits}
use Rattle.jv_model.specs.declared.op.Op.{Op}
use Rattle.jv_model.specs.promise.client.Pending.{without_range}
use Rattle.jv_model.specs.promise.client.Profile.{profile, handle_of}
use Rattle.jv_model.specs.promise.client.ModelClient.{ModelClient, Doing, Stage, unmounted, with_stage, views_without}
use Rattle.jv_model.specs.promise.client.Submission.{submitted, by_limits}
use Rattle.jv_model.specs.promise.journal.State.{State, with_client, set_client, given, transacted, newly_sustained, next_entry, gift_of, after_transaction, after_told, answered_client, is_of_another, after_step, after_other, of_doing, changed, effect, view_now, is_compaction}
use Rattle.jv_model_laws.proofs.JournalGrowthLaws.{own_client, others_kept}
use Rattle.jv_model_laws.proofs.JournalStateLaws.{of_kind}
use Rattle.jv_model_laws.proofs.JournalDoingLaws.{doing_given}

abbrev pub DoesItsOwn : Limits → Option Doing → Type 0
DoesItsOwn limits None = Unit {0}
DoesItsOwn limits (Some d) = d.does ≡ by_limits limits (profile d.op).does

module _ (limits : Limits) where
  abbrev IsOwn : ModelClient → Type 0
  IsOwn c = DoesItsOwn limits c.doing

  staged : (stage : Stage) (x : ModelClient) (o : Option Doing) → x.doing ≡ o → DoesItsOwn limits o
      → IsOwn (elim o as (λ _. ModelClient) [ None ↦ x | Some y ↦ record x { doing = Some (record y { stage = stage; moved = true }) } ])
  staged stage x None e h = subst (DoesItsOwn limits) (sym e) tt
  staged stage x (Some y) e h = h

  own_with : (clients : ℕ → ModelClient) (client : ℕ) (stage : Stage) (x : ModelClient) → x.doing ≡ (clients client).doing → IsOwn (clients client) → IsOwn (with_client clients client (with_stage stage x) client)
  own_with clients client stage x e h = subst IsOwn (sym (own_client clients client (with_stage stage x))) (staged stage x x.doing refl (subst (DoesItsOwn limits) (sym e) h))

  module _ (s : State) (act : Act) (h : IsOwn (s.clients act.client)) where
    abbrev c : ModelClient
    c = s.clients act.client

    own_stage : (stage : Stage) → IsOwn (with_client s.clients act.client (with_stage stage c) act.client)
    own_stage stage = own_with s.clients act.client stage c refl h

    own_transaction : (d : Doing) → IsOwn ((after_transaction s act.client act.at d).clients act.client)
    own_transaction d =
        let done = transacted s act.client act.at d.op in
        let sustained : List ℕ = newly_sustained s.tree done.tree c ++ c.sustained in
        let old : ModelClient = record c { sustained = sustained } in
        own_with s.clients act.client _ (given (next_entry s) d.does (gift_of done.reply) old) (doing_given (next_entry s) d.does (gift_of done.reply) old) h

    own_look : (inode window : ℕ) (d : Doing) (compacts : Bool) (first other : Stage)
        → IsOwn (with_client s.clients act.client (if compacts then with_stage first c else with_stage other (record c { views = view_now s (handle_of d.op) inode window ∷ c.views })) act.client)
    own_look inode window d true first other = own_stage first
    own_look inode window d false first other = own_with s.clients act.client other (record c { views = view_now s (handle_of d.op) inode window ∷ c.views }) refl h

    own_step : (d : Doing) (kind : ActKind) → IsOwn ((after_step s act d kind).clients act.client)
    own_step d (Mounted sid) = own_transaction d
    own_step d Meta = own_transaction d
    own_step d (Opened handle inode) = own_transaction d
    own_step d (Look inode window) = own_look inode window d (is_compaction d.does) _ _
    own_step d (Commit inode from len left) = own_with s.clients act.client _ (record c { pending = without_range inode from len c.pending; views = views_without inode c.views }) refl h
    own_step d (Truncated inode len) = own_with s.clients act.client _ (record c { views = views_without inode c.views }) refl h
    own_step d (Copied source from target to len) = own_with s.clients act.client _ (record c { views = views_without target c.views }) refl h
    own_step d (Compacted inode window from to) = own_stage _
    own_step d (Settled commit) = own_stage _
    own_step d (Expired sid) = own_stage _
    own_step d (Purged inode) = own_stage _
    own_step d (Cleaned table key) = own_stage _
    own_step d Quiet = own_stage _
    own_step d (Miss inode window) = own_stage _
    own_step d Crashed = h
    own_step d (Ticked by) = h
    own_step d (Answered told) = h

    own_other : (kind : ActKind) → IsOwn ((after_other s kind).clients act.client)
    own_other (Settled commit) = h
    own_other kind = h

    own_told : (o : Op) (told : Told) (x : ModelClient) → IsOwn (after_told o told x)
    own_told o (Fine a b e f) x = tt
    own_told o (Looks first second len) x = tt
    own_told o (ToldRefused fault) x = tt

    own_either : (other : Bool) (x y : ModelClient) → IsOwn x → IsOwn y → IsOwn (if other then x else y)
    own_either true x y g k = g
    own_either false x y g k = k

    own_answered_if : (told : Told) (o : Option Doing) → IsOwn (elim o as (λ _. ModelClient) [ None ↦ c | Some d ↦ (if is_of_another d.stage told then c else after_told d.op told c) ])
    own_answered_if told None = h
    own_answered_if told (Some d) = own_either (is_of_another d.stage told) c (after_told d.op told c) h (own_told d.op told c)

    own_answered : (told : Told) → IsOwn (with_client s.clients act.client (answered_client told c) act.client)
    own_answered told = subst IsOwn (sym (own_client s.clients act.client (answered_client told c))) (own_answered_if told c.doing)

  own_doing : (s : State) (act : Act) (o : Option Doing) → IsOwn (s.clients act.client) → IsOwn ((of_doing s act o).clients act.client)
  own_doing s act None h = own_other s act h act.kind
  own_doing s act (Some d) h = own_step s act h d act.kind

  own_changed : (s : State) (act : Act) (kind : ActKind) → IsOwn (s.clients act.client) → IsOwn ((changed s (of_kind act kind) kind).clients act.client)
  own_changed s act Crashed h = subst IsOwn (sym (own_client s.clients act.client unmounted)) tt
  own_changed s act (Answered told) h = own_answered s act h told
  own_changed s act kind h = own_doing s (of_kind act kind) (s.clients act.client).doing h

  abbrev pub AllDoTheirOwn : (ℕ → ModelClient) → Type 0
  AllDoTheirOwn clients = (client : ℕ) → IsOwn (clients client)

  pub own_after : (s : State) (act : Act) → AllDoTheirOwn s.clients → AllDoTheirOwn (effect s act).clients
  own_after s act all client = elim (eqb_tells client act.client) [
    | inl own ↦ subst (λ q. IsOwn ((effect s act).clients q)) (sym own.1) (own_changed s act act.kind (all act.client))
    | inr other ↦ subst IsOwn (sym (others_kept s act client other.1)) (all client)
  ]

  pub own_submitted : (s : State) (client : ℕ) (o : Op) → AllDoTheirOwn s.clients → AllDoTheirOwn (set_client s client (submitted limits o (s.clients client))).clients
  own_submitted s client o all other = elim (eqb_tells other client) [
    | inl same ↦ subst (λ b. IsOwn (if b then submitted limits o (s.clients client) else s.clients other)) (sym same.0) refl
    | inr apart ↦ subst (λ b. IsOwn (if b then submitted limits o (s.clients client) else s.clients other)) (sym apart.0) (all other)
  ]
