-- A flush asks for the number of a segment's slice.
use Rattle.std.proofs.Common.{◌≡◌, ℕ, ◌+◌, ◌≤◌, Bool, true, false, ◌⊎◌, inl, inr, List, [], ◌∷◌, length, None, Some, Result, Ok, Err}
use Rattle.std.proofs.Common.{refl, sym, ap, subst, ◌∙◌, arith}
use Rattle.std.specs.Prelude.{◌==◌, is_some, nat_le, nat_lt, IsTrue}
use Rattle.std.proofs.lemmas.Bool.{le-leb, ltb-false, or_left}
use Rattle.jv_model.specs.declared.limits.TheConstants.{FULL_COUNT, FILE_END}
use Rattle.jv_model.specs.declared.act.ActKind.TheVariants.{Quiet, Answered}
use Rattle.jv_model.specs.declared.act.Told.TheVariants.{Refused as ToldRefused}
use Rattle.jv_model.specs.declared.fault.Down.{Down}
use Rattle.jv_model.specs.declared.fault.Fault.{Fault}
use Rattle.jv_model.specs.declared.fault.Fault.TheVariants.{NoSpace, Stale}
use Rattle.jv_model.specs.declared.fault.Gone.TheVariants.{Session}
use Rattle.jv_model.specs.declared.fault.RowFault.TheVariants.{Bad}
use Rattle.jv_model.specs.declared.fault.TxFault.TheVariants.{Moved, Refused as TxRefused, Rows as OfRows}
use Rattle.jv_model.specs.declared.op.Reply.TheVariants.{Refused}
use Rattle.jv_model.specs.declared.op.Step.TheVariants.{More, Done}
use Rattle.jv_model.specs.declared.row.RowKey.{RowKey}
use Rattle.jv_model.specs.declared.slice.Rec.{Rec}
use Rattle.jv_model.specs.promise.FiniteMap.{get}
use Rattle.jv_model.specs.rows.RowFaults.{row_fault}
use Rattle.jv_model.specs.promise.rows.RowPlaces.{counters_key, dropped_key, node_key}
use Rattle.jv_model.specs.promise.tree.Attempt.{◌>>=◌, require}
use Rattle.jv_model.specs.promise.tree.Tree.{Tree}
use Rattle.jv_model.specs.promise.client.Pending.{Segment}
use Rattle.jv_model.specs.promise.client.Submission.{next_segment}
use Rattle.jv_model.specs.promise.client.ModelClient.{ModelClient, Doing, Working, session_of}
use Rattle.jv_model.specs.promise.journal.State.{State, after_told, has_session}
use Rattle.jv_model.specs.promise.journal.Steps.{Start, is_crowded, is_failure}
use Rattle.jv_outside.specs.promise.Store.{Store}
use Rattle.jv_volume.specs.promise.TypedRows.{Rows, typed}
use Rattle.jv_volume.specs.promise.TreeOf.{sessions_of, tree_of}
use Rattle.jv_volume.specs.promise.Slices.{next_slice}
use Rattle.jv_volume.specs.promise.Views.{row_in, node_in}
use Rattle.jv_volume.specs.Whole.{FilesDrop}
use Rattle.jv_volume.specs.promise.Whole.{no_bytes}
use Rattle.jv_volume.proofs.stored.QuietLaws.{drop-beside, drop-none}
use Rattle.jv_volume_bytes.specs.promise.Blocks.{known_by}
use Rattle.jv_volume_bytes.specs.promise.Bytes.{bytes_of}
use Rattle.jv_volume_bytes.specs.promise.Counts.{record_count}
use Rattle.jv_volume_bytes.proofs.KeepLaws.{record_count-stay, stay-counters}
use Rattle.jv_data.specs.Records.{Numbered, TakesNumber, number_given}
use Rattle.jv_client_shared.specs.Flying.{Flies}
use Rattle.jv_client_shared.specs.promise.Shared.{HasStore, Known, Shared}
use Rattle.jv_client_shared.specs.Shared.{rows_in, with_size}
use Rattle.jv_client_shared.proofs.RowStepLaws.{number-apart, number-flies, number-leads}
use Rattle.jv_client_shared.proofs.SameLaws.{same-rows}
use Rattle.jv_client_shared.proofs.StoreLaws.{rows_are}
use Rattle.jv_model_steps.specs.IsStep.{IsStep, at_stage}
use Rattle.jv_model_steps.proofs.FlushStepLaws.{number-crowded, number-gone, number-step}
use Rattle.jv_model_steps.proofs.RefusalStepLaws.{goes-working}
use Rattle.jv_model_steps.proofs.SessionLaws.{has_session-mounted}
use Rattle.jv_client_requests.specs.Request.{IsWithin, Request}
use Rattle.jv_client_requests.proofs.RequestLaws.{Grows, drops-known, request-of}
use Rattle.jv_client_requests.proofs.GrowsLaws.{left-grows}
use Rattle.jv_client_requests.proofs.FlightLaws.{apart-new}
use Rattle.jv_client_requests.proofs.StillLaws.{fault_of_rows, rows-failed, stays-same, still-within}

-- ---- dropped rows, beside the counters

drops-counters : (rows after : Rows) → ((key : RowKey) → (get after key ≡ get rows key) ⊎ (key ≡ counters_key)) → FilesDrop rows after
drops-counters rows after others i = drop-beside rows rows after (drop-none rows) i
    (ap (λ c. node_in (row_in c)) (by_key (node_key i) refl (others (node_key i))))
    (by_key (dropped_key i) refl (others (dropped_key i)))
  where
    by_key : (key : RowKey) → (key.tab == 1) ≡ false → (get after key ≡ get rows key) ⊎ (key ≡ counters_key) → get after key ≡ get rows key
    by_key key apart (inl same) = same
    by_key key apart (inr same) = (let both : true ≡ false = sym (ap (λ (k : RowKey). k.tab == 1) same) ∙ apart in absurd (cc))

-- ---- sessions, which no bytes of files change

sessions-told : (bytes : ℕ → ℕ → ℕ) (rows : Rows) (sid : ℕ)
    → is_some (get (tree_of bytes rows).sessions sid) ≡ is_some (get (sessions_of rows) sid)
unfolding tree_of
sessions-told bytes rows sid = refl

pub session-same : (s : State) (g : Known) (v : Shared) (store : HasStore s.tree g v) (c : ModelClient) (sid : ℕ)
    → IsTrue (is_some c.session) → sid ≡ session_of c
    → (bytes : ℕ → ℕ → ℕ) → is_some (get (tree_of bytes (typed store.rows)).sessions sid) ≡ has_session s.tree c
session-same s g v store c sid mounted own bytes =
    sessions-told bytes (typed store.rows) sid
    ∙ sym (sessions-told (bytes_of (known_by v.yard.setting.block g.blocks) (typed store.rows)) (typed store.rows) sid)
    ∙ ap (λ (t : Tree). is_some (get t.sessions sid)) (sym store.tree)
    ∙ ap (λ sid. is_some (get s.tree.sessions sid)) own
    ∙ sym (has_session-mounted s.tree c mounted)

-- ---- the tests of the transaction

module _ (sid next : ℕ) where
  abbrev by_tests : Bool → Bool → Result ℕ Fault
  by_tests session room = require session (Stale (Session sid)) >>= (λ _. require room NoSpace >>= (λ _. Ok next))

  given-session : (session room : Bool) (id : ℕ) → by_tests session room ≡ Ok id → session ≡ true
  given-session true room id e = refl
  given-session false room id e = absurd (cc e)

  data WhyNot (session room : Bool) (fault : Fault) : Type 0 where
    NoSession : session ≡ false → fault ≡ Stale (Session sid) → WhyNot session room fault
    NoNumber : session ≡ true → room ≡ false → fault ≡ NoSpace → WhyNot session room fault

  why-not : (session room : Bool) (fault : Fault) → by_tests session room ≡ Err fault → WhyNot session room fault
  why-not false room fault e =
      NoSession refl (let same : ◌≡◌ {A = Result ℕ Fault} (Err (Stale (Session sid))) (Err fault) = e in cc)
  why-not true false fault e = NoNumber refl refl
      (let same : ◌≡◌ {A = Result ℕ Fault} (Err NoSpace) (Err fault) = e in cc)
  why-not true true fault e = absurd (cc e)

-- ---- the request

module _ (s : State) (g : Known) (v : Shared) (store : HasStore s.tree g v) (client now : ℕ) (d : Doing)
    (busy : (s.clients client).doing ≡ Some d) (segment : Segment)
    (next : next_segment d.flush (s.clients client).pending ≡ Some segment) (started : ℕ)
    (at : d.stage ≡ Working 0 started)
    (keeper : Store) (sid : ℕ) (mounted : IsTrue (is_some (s.clients client).session))
    (own : sid ≡ session_of (s.clients client)) where
  abbrev c : ModelClient
  c = s.clients client

  abbrev asked : Shared
  asked = record v { keeper = keeper }

  abbrev session_there : Bool
  session_there = is_some (get (tree_of no_bytes (typed store.rows)).sessions sid)

  abbrev number_there : Bool
  number_there = nat_lt (next_slice (typed store.rows)) FULL_COUNT

  session-is : session_there ≡ has_session s.tree c
  session-is = session-same s g v store c sid mounted own no_bytes

  -- a number was given

  module _ (id : ℕ) (takes : TakesNumber sid v.keeper keeper (Ok id)) where
    given : (number_given sid (typed store.rows) (tree_of no_bytes (typed store.rows)) ≡ Ok id)
        × Numbered store.rows keeper.rows id
    given = takes.lands store.rows store.rows_are store.whole

    taken_grows : (bytes : List ℕ)
        → Grows s g (with_size id (length bytes) g) v asked client now (Quiet ∷ []) More s.tree
        (at_stage (Working 1 0) d c) s.copied
    taken_grows bytes =
        let n = given.1 in
        let same : record_count (typed n.left) ≡ record_count (typed store.rows) =
        record_count-stay (typed store.rows) (typed n.left) (stay-counters (typed store.rows) (typed n.left) n.others)
        in
        let first = n.given in let then = n.next in
        left-grows s g (with_size id (length bytes) g) v store client now (Quiet ∷ []) More s.tree
        (at_stage (Working 1 0) d c) s.copied keeper n.left n.is (omega (arith, first, then)) (omega (arith, same))

    -- The operation goes on with this number, by which nothing was put yet.
    pub number-taken : (bytes : List ℕ)
        → Request s g (with_size id (length bytes) g) v asked client now 0 id (Quiet ∷ []) More s.tree
        (at_stage (Working 1 0) d c) s.copied
    number-taken bytes =
        let n = given.1 in
        request-of s g (with_size id (length bytes) g) v asked client now (Quiet ∷ []) More s.tree
        (at_stage (Working 1 0) d c) s.copied 0 0 id
        (λ start alone within. number-step start alone s client now d busy segment next started at
        (sym session-is ∙ given-session sid (next_slice (typed store.rows)) session_there number_there id given.0))
        (number-leads s.tree g v store keeper v.carrier n.left id n.is n.whole n.low n.given n.next n.unknown n.same
        n.others (length bytes) 0)
        (taken_grows bytes)
        (apart-new g v 0 id
        (number-apart s.tree g v store keeper v.carrier n.left id n.is n.whole n.low n.given n.next n.unknown n.same
        n.others))
        (stays-same s.tree)
        (drops-known v asked store.rows n.left store.rows_are n.is (drops-counters (typed store.rows) (typed n.left) n.others))

    pub number-taken_flies : (bytes : List ℕ)
        → Flies (with_size id (length bytes) g) asked (record { id = id; bytes = bytes; put = 0 })
    number-taken_flies bytes =
        let n = given.1 in
        number-flies s.tree g v store keeper v.carrier n.left id n.is n.whole n.low n.given n.next n.unknown n.same
        n.others bytes

  -- it was refused

  abbrev RefusedAs : Fault → ModelClient → Type 0
  RefusedAs fault c =
      Request s g g v asked client now 0 0 (Quiet ∷ Answered (ToldRefused fault) ∷ []) (Done (Refused fault)) s.tree c
      s.copied

  module _ (fault : Fault) (takes : TakesNumber sid v.keeper keeper (Err (TxRefused fault))) where
    refused-by : (after : ModelClient) → ((start : Start) (alone : Bool) → IsWithin start s (rows_in v)
        → IsStep start alone s client now (Quiet ∷ Answered (ToldRefused fault) ∷ []) (Done (Refused fault)) s.tree
        after s.copied)
        → RefusedAs fault after
    refused-by after steps =
        still-within s g v asked store (same-rows v keeper v.carrier takes.undone) client now 0
        (Quiet ∷ Answered (ToldRefused fault) ∷ []) (Done (Refused fault)) after steps

    crowded-by : (start : Start) → IsWithin start s (rows_in v) → number_there ≡ false → is_crowded start s ≡ true
    crowded-by start within full =
        or_left (nat_le FULL_COUNT (start.next_slice + s.count))
        (nat_le FULL_COUNT (start.records + s.count + FILE_END + s.copied))
        (le-leb FULL_COUNT (start.next_slice + s.count)
        (let high : FULL_COUNT ≤ next_slice (typed store.rows) =
        ltb-false (next_slice (typed store.rows)) FULL_COUNT full in
        let same : next_slice (rows_in v) ≡ next_slice (typed store.rows) = ap next_slice (rows_are s.tree g v store) in
        let low = within.numbers in omega (arith, high, same, low)))

    by_why : WhyNot sid (next_slice (typed store.rows)) session_there number_there fault
        → RefusedAs fault (after_told d.op (ToldRefused fault) c)
    by_why (NoSession gone same) =
        let is : fault ≡ Stale (Session (session_of c)) = same ∙ ap (λ sid. Stale (Session sid)) own in
        refused-by (after_told d.op (ToldRefused fault) c)
        (λ start alone within. subst (λ f. IsStep start alone s client now (Quiet ∷ Answered (ToldRefused f) ∷ [])
        (Done (Refused f)) s.tree (after_told d.op (ToldRefused f) c) s.copied) (sym is)
        (number-gone start alone s client now d busy segment next started at (sym session-is ∙ gone)))
    by_why (NoNumber there full same) =
        refused-by (after_told d.op (ToldRefused fault) c)
        (λ start alone within. subst (λ f. IsStep start alone s client now (Quiet ∷ Answered (ToldRefused f) ∷ [])
        (Done (Refused f)) s.tree (after_told d.op (ToldRefused f) c) s.copied) (sym same)
        (number-crowded start alone s client now d busy segment next started at (sym session-is ∙ there)
        (crowded-by start within full)))

    calm_by : WhyNot sid (next_slice (typed store.rows)) session_there number_there fault
        → is_failure (ToldRefused fault) ≡ false
    calm_by (NoSession gone same) = ap (λ fault. is_failure (ToldRefused fault)) same
    calm_by (NoNumber there full same) = ap (λ fault. is_failure (ToldRefused fault)) same

    -- No device failed.
    pub number-calm : is_failure (ToldRefused fault) ≡ false
    number-calm =
        calm_by (why-not sid (next_slice (typed store.rows)) session_there number_there fault
        (takes.lands store.rows store.rows_are store.whole))

    -- The session is gone, or there are no more numbers.
    pub number-refused : RefusedAs fault (after_told d.op (ToldRefused fault) c)
    number-refused =
        by_why (why-not sid (next_slice (typed store.rows)) session_there number_there fault
        (takes.lands store.rows store.rows_are store.whole))

  -- The keeper failed, or memory ran out.
  pub number-failed : (down : Down) → TakesNumber sid v.keeper keeper (Err (OfRows (row_fault down)))
      → Request s g g v asked client now 0 0 (Answered (ToldRefused (fault_of_rows down)) ∷ [])
      (Done (Refused (fault_of_rows down))) s.tree (record c { doing = None }) s.copied
  number-failed down takes =
      rows-failed s g v asked store (same-rows v keeper v.carrier takes.undone) client now 0 d busy
      (goes-working d 0 started at) down

  -- Over whole rows no list has moved, and no row is Bad.
  pub number-never_moved : (list : List Rec) → TakesNumber sid v.keeper keeper (Err (Moved list)) → ⊥
  number-never_moved list takes = takes.lands store.rows store.rows_are store.whole

  pub number-never_bad : (row : RowKey) (bytes : List ℕ)
      → TakesNumber sid v.keeper keeper (Err (OfRows (Bad row bytes))) → ⊥
  number-never_bad row bytes takes = takes.lands store.rows store.rows_are store.whole
