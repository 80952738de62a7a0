-- How a mount and a beat end: each of their exits, by what was read and what was changed.
use Rattle.std.proofs.Common.{◌≡◌, ℕ, ◌+◌, ◌<◌, ◌≤◌, true, false, List, [], Option, None, Some, Result, Ok, Err, refl, sym, ap, subst, ◌∙◌, arith}
use Rattle.std.specs.Prelude.{◌&&◌, nat_le, nat_lt}
use Rattle.std.proofs.lemmas.Bool.{lt-ltb, le-ltb, leb-true}
use Rattle.jv_model.specs.declared.limits.TheConstants.{FULL_COUNT}
use Rattle.jv_model.specs.declared.lifetimes.TheConstants.{SESSION_LIFE}
use Rattle.jv_model.specs.declared.basics.Who.{Who}
use Rattle.jv_model.specs.declared.fault.Fault.{Fault}
use Rattle.jv_model.specs.declared.fault.Fault.TheVariants.{NoSpace, Stale}
use Rattle.jv_model.specs.declared.fault.Gone.TheVariants.{Session as GoneSession}
use Rattle.jv_model.specs.declared.fault.RowFault.{RowFault}
use Rattle.jv_model.specs.declared.fault.TxFault.{TxFault}
use Rattle.jv_model.specs.declared.fault.TxFault.TheVariants.{Refused, Rows as OfRows}
use Rattle.jv_model.specs.declared.op.Reply.{Reply}
use Rattle.jv_model.specs.declared.op.Reply.TheVariants.{Done, SessionMade}
use Rattle.jv_model.specs.declared.row.Counters.{Counters}
use Rattle.jv_model.specs.declared.row.Row.TheVariants.{OfCounters, OfSession}
use Rattle.jv_model.specs.declared.row.Session.{Session}
use Rattle.jv_model.specs.promise.FiniteMap.{get, insert}
use Rattle.jv_model.specs.promise.rows.RowGrammar.{is_counters, is_session}
use Rattle.jv_model.specs.promise.rows.RowKeys.{RowMap}
use Rattle.jv_model.specs.promise.rows.RowPlaces.{counters_key, session_key}
use Rattle.jv_model.specs.promise.tree.Attempt.{◌>>=◌, require, some_or}
use Rattle.jv_model.specs.promise.tree.Caller.{Caller, Outcome, answered, done}
use Rattle.jv_model.specs.promise.tree.Sessions.{mount, with_session, beat, kept_alive}
use Rattle.jv_model.specs.promise.tree.Tree.{Tree, SessionEntry}
use Rattle.jv_outside.specs.declared.batch.Change.{Change}
use Rattle.jv_outside.specs.promise.Store.{Store}
use Rattle.jv_outside.specs.Store.{Commits}
use Rattle.jv_rows.specs.Drafts.{Sees, Needs}
use Rattle.jv_rows.specs.Transactions.{IsFor, Transacts, Always}
use Rattle.jv_rows.proofs.transactions.NeedingLaws.{CountersNeeded, fails-needed, stands-needs}
use Rattle.jv_rows.proofs.transactions.TransactionLaws.{Past, past-start, past-as, past-calm, past-refuses, fails-looks, fails-sees, stands-sees, transacts-refused, none_kept}
use Rattle.jv_volume.specs.promise.TypedRows.{typed}
use Rattle.jv_volume.specs.promise.TreeOf.{tree_of, session_of_row}
use Rattle.jv_volume.specs.promise.Shape.{WholeShape, shape_of}
use Rattle.jv_volume.specs.promise.Views.{row_in, counters_in, session_in}
use Rattle.jv_volume.specs.promise.Whole.{Whole}
use Rattle.jv_volume.proofs.shapes.SessionShapeLaws.{whole-with_session, whole-kept_alive}
use Rattle.jv_volume.proofs.stored.StoredLaws.{whole-stored, whole-shape, found_counters, found_session, no_session}
use Rattle.jv_rows_drafts.specs.Drafting.{Minds, AreRows, Drafting}
use Rattle.jv_rows_drafts.proofs.DraftedLaws.{Drafted, are_rows-put}
use Rattle.jv_rows_drafts.proofs.DraftingLaws.{PastSteps, minds-none, are_rows-none, steps-start, steps-on, steps-stop, steps-commit}
use Rattle.jv_live.specs.Steps.{keeping_session}
use Rattle.jv_live.proofs.DraftLaws.{minds-counted}

-- the draft at first
pub minds-fresh : (changes : List Change) → changes ≡ [] → (known : RowMap) (bytes : ℕ → ℕ → ℕ) → Whole (typed known)
    → Minds known changes bytes (tree_of bytes (typed known))
minds-fresh changes none known bytes whole = subst (λ ch. Minds known ch bytes (tree_of bytes (typed known))) (sym none) (minds-none known bytes whole)

pub fresh-steps : (before middle : Store) (changes : List Change) → changes ≡ [] → (act rest : Tree → Result Outcome Fault) → Past before middle act rest
    → PastSteps Always before middle changes (λ t. t) act rest
fresh-steps before middle changes none act rest p =
    subst (λ ch. PastSteps Always before middle ch (λ t. t) act rest) (sym none) (steps-start Always before middle act rest p)

-- a step that was made wasn't refused
pub not_made : {A : Type 0} (t : Tree) (refused : Fault) → ◌≡◌ {A = Result Tree Fault} (Ok t) (Err refused) → A
not_made t refused e = absurd (cc)

-- a step that the model makes too, and which failed
pub steps-fell : {A : Type 0} (before middle after : Store) (was now : List Change) (so_far step : Tree → Tree) (reply : A → Reply)
    (act rest : Tree → Result Outcome Fault)
    → PastSteps Always before middle was so_far act rest → (fault : TxFault) → Drafting {A = Unit {0}} Always was now middle after (Err fault)
    (λ t. Ok (step t))
    → Transacts {A = A} Always before after (Err fault) reply act
steps-fell before middle after was now so_far step reply act rest p fault d =
    steps-stop Always before middle after was now so_far reply act rest p fault Always (λ t. Ok (step t)) d (λ known is whole bytes ready. tt)
    (λ known is whole bytes ready refused e. not_made (step (so_far (tree_of bytes (typed known)))) refused e)

-- ---- mount

mount-is : (t : Tree) (who : Caller) → mount t who
    ≡ (require (nat_lt t.next_session FULL_COUNT) NoSpace >>= (λ _. answered (with_session t who) (SessionMade t.next_session)))
unfolding mount
mount-is t who = refl

last_of_three : (a b : _) (n : ℕ) → (a && b && nat_le 1 n) ≡ true → 1 ≤ n
last_of_three true true n e = leb-true 1 n e
last_of_three true false n e = absurd (cc)
last_of_three false b n e = absurd (cc)

module _ (caller : Caller) (before middle : Store) (changes : List Change) (none : changes ≡ []) where
  abbrev mounts : Tree → Result Outcome Fault
  mounts t = mount t caller

  abbrev made : ℕ → Reply
  made sid = SessionMade sid

  -- the counters weren't read
  pub mount-uncounted : (fault : TxFault) → Needs OfCounters is_counters counters_key changes before middle (Err fault)
      → Transacts {A = ℕ} Always before middle (Err fault) made mounts
  mount-uncounted fault n = transacts-refused Always before middle made mounts fault (fails-looks before middle mounts fault
      (fails-needed OfCounters is_counters counters_key changes before middle (λ known is. none_kept changes counters_key none known)
      (CountersNeeded refl) fault n))

  module _ (c : Counters) (n : Needs OfCounters is_counters counters_key changes before middle (Ok c)) where
    counted : Past before middle mounts mounts
    counted = past-calm before before middle mounts mounts (past-start before mounts) n.rows_are n.opened_at n.counts

    counters_there : (known : RowMap) → before.rows ≡ Some known → get (typed known) counters_key ≡ Some (Ok (OfCounters c))
    counters_there known is = stands-needs OfCounters is_counters counters_key changes before middle
        (λ known is. none_kept changes counters_key none known) c n known is

    next_is : (known : RowMap) → before.rows ≡ Some known → Whole (typed known) → (bytes : ℕ → ℕ → ℕ) → (tree_of bytes (typed known)).next_session ≡ c.session
    next_is known is whole bytes = (found_counters bytes (typed known) (whole-stored bytes (typed known) whole) c
        (ap (λ o. counters_in (row_in o)) (counters_there known is))).next_session

    -- no number is left
    pub mount-full : FULL_COUNT ≤ c.session → Transacts {A = ℕ} Always before middle (Err (Refused NoSpace)) made mounts
    mount-full full = transacts-refused Always before middle made mounts (Refused NoSpace) (past-refuses before middle mounts NoSpace
        (past-as before middle middle mounts mounts counted (λ t. Err NoSpace) (λ known is whole bytes.
        let t = tree_of bytes (typed known) in
        mount-is t caller ∙ ap (λ b. require b NoSpace >>= (λ _. answered (with_session t caller) (SessionMade t.next_session)))
        (ap (λ k. nat_lt k FULL_COUNT) (next_is known is whole bytes) ∙ le-ltb c.session FULL_COUNT full))))

    module _ (room : c.session < FULL_COUNT) (d1 d2 : List Change) (one : Drafted counters_key
        (Some (Ok (OfCounters (record c { session = c.session + 1 })))) changes d1)
        (session : Session) (session_is : session ≡ record { client = caller.client; expiry = caller.now + SESSION_LIFE }) where
      abbrev risen : Tree → Tree
      risen t = record t { next_session = c.session + 1 }

      mount-risen : PastSteps Always before middle d1 risen mounts mounts
      mount-risen = record {
        rows_are = counted.rows_are;
        opened_at = counted.opened_at;
        calm = counted.calm;
        formed = are_rows-put counters_key changes d1 (OfCounters (record c { session = c.session + 1 })) one (subst AreRows (sym none) are_rows-none);
        minds = λ known is whole bytes ready. minds-counted known changes d1 bytes (tree_of bytes (typed known)) (minds-fresh changes none known bytes whole)
            c (c.session + 1) (none_kept changes counters_key none known ∙ counters_there known is) one;
        goes_on = λ known is whole bytes ready. refl;
      }

      -- memory ran out
      pub mount-fell : (fault : TxFault) → Drafting {A = Unit {0}} Always d1 d2 middle middle (Err fault) (λ t. Ok (keeping_session c.session session t))
          → Transacts {A = ℕ} Always before middle (Err fault) made mounts
      mount-fell fault d = steps-fell before middle middle d1 d2 risen (keeping_session c.session session) made mounts mounts mount-risen fault d

      tree_is : (t : Tree) → t.next_session ≡ c.session → with_session t caller ≡ keeping_session c.session session (risen t)
      tree_is t next =
          (λ i. record t {
            sessions = insert t.sessions (next i) (record { client = caller.client; expiry = caller.now + SESSION_LIFE });
            next_session = next i + 1;
          })
          ∙ ap (λ s. keeping_session c.session s (risen t)) (sym session_is)

      -- it is committed
      pub mount-commits : (after : Store) → Drafting Always d1 d2 middle middle (Ok (tt {0})) (λ t. Ok (keeping_session c.session session t))
          → Commits middle after (Ok tt) d2
          → Transacts {A = ℕ} Always before after (Ok c.session) made mounts
      mount-commits after d commits =
          let last = λ (t : Tree). keeping_session c.session session (risen t) in
          steps-commit Always before middle after d2 d2 last made mounts mounts
          (steps-on Always before middle middle d1 d2 risen mounts mounts mount-risen (tt {0}) Always (λ t. Ok (keeping_session c.session session t)) last d
          (λ known is whole bytes ready. tt) (λ known is whole bytes ready. refl))
          c.session commits
          (λ known is whole bytes ready.
          let t = tree_of bytes (typed known) in
          let next = next_is known is whole bytes in
          mount-is t caller ∙ ap (λ b. require b NoSpace >>= (λ _. answered (with_session t caller) (SessionMade t.next_session)))
          (ap (λ k. nat_lt k FULL_COUNT) next ∙ lt-ltb c.session FULL_COUNT room)
          ∙ (λ i. answered (tree_is t next i) (SessionMade (next i))))
          (λ known is whole bytes ready.
          let t = tree_of bytes (typed known) in
          let next = next_is known is whole bytes in
          let first = last_of_three (nat_le 1 c.inode) (nat_le 1 c.slice) c.session n.allowed in
          subst (λ (u : Tree). WholeShape (shape_of u)) (tree_is t next)
          (whole-with_session t caller (whole-shape bytes (typed known) whole) (omega (arith, first, next)) (omega (arith, room, next))))

-- ---- beat

beat-is : (t : Tree) (who : Caller) → beat t who
    ≡ (some_or (get t.sessions who.sid) (Stale (GoneSession who.sid)) >>= (λ session. done (kept_alive t who session)))
unfolding beat
beat-is t who = refl

module _ (who : Who) (caller : Caller) (asks : IsFor who caller) (before middle : Store) (changes : List Change) (none : changes ≡ []) where
  abbrev beats : Tree → Result Outcome Fault
  beats t = beat t caller

  abbrev beaten : Unit {0} → Reply
  beaten unit = Done

  beat-by : (t : Tree) (found : Option SessionEntry) → get t.sessions who.sid ≡ found
      → beats t ≡ (some_or found (Stale (GoneSession who.sid)) >>= (λ session. done (kept_alive t caller session)))
  beat-by t found is = beat-is t caller ∙ (λ i. some_or (get t.sessions (asks.sid i)) (Stale (GoneSession (asks.sid i))) >>=
      (λ session. done (kept_alive t caller session)))
      ∙ ap (λ o. some_or o (Stale (GoneSession who.sid)) >>= (λ session. done (kept_alive t caller session))) is

  -- the session's row wasn't read
  pub beat-unread : (fault : RowFault) → Sees OfSession is_session (session_key who.sid) changes before middle (Err fault)
      → Transacts Always before middle (Err (OfRows fault)) beaten beats
  beat-unread fault s = transacts-refused Always before middle beaten beats (OfRows fault) (fails-looks before middle beats (OfRows fault)
      (fails-sees OfSession is_session (session_key who.sid) changes before middle (λ known is. none_kept changes (session_key who.sid) none known) fault s))

  seen_past : (found : Option Session) → Sees OfSession is_session (session_key who.sid) changes before middle (Ok found) → Past before middle beats beats
  seen_past found s = past-calm before before middle beats beats (past-start before beats) s.rows_are s.opened_at s.counts

  -- the session is gone
  pub beat-gone : Sees OfSession is_session (session_key who.sid) changes before middle (Ok None)
      → Transacts Always before middle (Err (Refused (Stale (GoneSession who.sid)))) beaten beats
  beat-gone s = transacts-refused Always before middle beaten beats (Refused (Stale (GoneSession who.sid)))
      (past-refuses before middle beats (Stale (GoneSession who.sid))
      (past-as before middle middle beats beats (seen_past None s) (λ t. Err (Stale (GoneSession who.sid))) (λ known is whole bytes.
      let row = stands-sees OfSession is_session (session_key who.sid) changes before middle
      (λ known is. none_kept changes (session_key who.sid) none known) None s known is in
      beat-by (tree_of bytes (typed known)) None (no_session bytes (typed known) who.sid (ap (λ o. session_in (row_in o)) row)))))

  module _ (session after_session : Session) (s : Sees OfSession is_session (session_key who.sid) changes before middle (Ok (Some session)))
      (session_is : after_session ≡ record session { expiry = caller.now + SESSION_LIFE }) (now : List Change) where
    beat-steps : PastSteps Always before middle changes (λ t. t) beats beats
    beat-steps = fresh-steps before middle changes none beats beats (seen_past (Some session) s)

    -- memory ran out
    pub beat-fell : (fault : TxFault) → Drafting {A = Unit {0}} Always changes now middle middle (Err fault)
        (λ t. Ok (keeping_session who.sid after_session t))
        → Transacts Always before middle (Err fault) beaten beats
    beat-fell fault d = steps-fell before middle middle changes now (λ t. t) (keeping_session who.sid after_session) beaten beats beats beat-steps fault d

    session_there : (known : RowMap) → before.rows ≡ Some known → (bytes : ℕ → ℕ → ℕ) → get (tree_of bytes (typed known)).sessions who.sid ≡ Some
        (session_of_row session)
    session_there known is bytes = found_session bytes (typed known) who.sid session (ap (λ o. session_in (row_in o))
        (stands-sees OfSession is_session (session_key who.sid) changes before middle
        (λ known is. none_kept changes (session_key who.sid) none known) (Some session) s known is))

    alive_is : (t : Tree) → kept_alive t caller (session_of_row session) ≡ keeping_session who.sid after_session t
    alive_is t = ap (λ sid. keeping_session sid (record session { expiry = caller.now + SESSION_LIFE }) t) asks.sid
        ∙ ap (λ s. keeping_session who.sid s t) (sym session_is)

    -- it is committed
    pub beat-commits : (after : Store) → Drafting Always changes now middle middle (Ok (tt {0})) (λ t. Ok (keeping_session who.sid after_session t))
        → Commits middle after (Ok tt) now → Transacts Always before after (Ok (tt {0})) beaten beats
    beat-commits after d commits =
        let last = λ (t : Tree). keeping_session who.sid after_session t in
        steps-commit Always before middle after now now last beaten beats beats
        (steps-on Always before middle middle changes now (λ t. t) beats beats beat-steps (tt {0}) Always
        (λ t. Ok (keeping_session who.sid after_session t)) last d
        (λ known is whole bytes ready. tt) (λ known is whole bytes ready. refl))
        (tt {0}) commits
        (λ known is whole bytes ready.
        let t = tree_of bytes (typed known) in
        beat-by t (Some (session_of_row session)) (session_there known is bytes) ∙ ap done (alive_is t))
        (λ known is whole bytes ready.
        let t = tree_of bytes (typed known) in
        subst (λ (u : Tree). WholeShape (shape_of u)) (alive_is t)
        (whole-kept_alive t caller (session_of_row session) (ap (get t.sessions) asks.sid ∙ session_there known is bytes) (whole-shape bytes (typed known) whole)))
