-- Sessions (JuiceFS, "Sessions" of its internals): a mount makes one, a beat keeps it alive, and an
-- umount ends it; one that expired is ended by a cleaning. A session keeps files without entries
-- that its client has open.
use Rattle.std.specs.Prelude.{ℕ, ◌+◌, true, false, ◌&&◌, not, ◌==◌, nat_lt, nat_le, Option, Result}
use Rattle.std.specs.Option.{option_map}
use Rattle.jv_model.specs.declared.limits.TheConstants.{FULL_COUNT}
use Rattle.jv_model.specs.declared.lifetimes.TheConstants.{SESSION_LIFE}
use Rattle.jv_model.specs.declared.fault.Fault.{Fault}
use Rattle.jv_model.specs.declared.fault.Fault.TheVariants.{NoSpace, Stale}
use Rattle.jv_model.specs.declared.fault.Gone.TheVariants.{Session}
use Rattle.jv_model.specs.declared.op.Reply.TheVariants.{SessionMade}
use Rattle.jv_model.specs.promise.tree.Attempt.{◌>>=◌, require, some_or}
use Rattle.jv_model.specs.promise.FiniteMap.{get, insert, remove, retain_keys, first_where}
use Rattle.jv_model.specs.promise.tree.Tree.{Tree, SessionEntry, is_sustained}
use Rattle.jv_model.specs.promise.tree.Changes.{drop_node}
use Rattle.jv_model.specs.promise.tree.Caller.{Caller, Outcome, answered, done, in_session}

-- the tree with the next session, which is the caller's
abbrev pub with_session : Tree → Caller → Tree
with_session t who = record t {
  sessions =
      insert t.sessions t.next_session (record {
        client = who.client;
        expiry = who.now + SESSION_LIFE;
      });
  next_session = t.next_session + 1;
}

unfoldable pub mount : Tree → Caller → Result Outcome Fault
mount t who = do
  _ ← require (nat_lt t.next_session FULL_COUNT) NoSpace
  answered (with_session t who) (SessionMade t.next_session)

-- the tree with a session that showed a sign of life
abbrev pub kept_alive : Tree → Caller → SessionEntry → Tree
kept_alive t who session = record t {
  sessions = insert t.sessions who.sid (record session { expiry = who.now + SESSION_LIFE });
}

unfoldable pub beat : Tree → Caller → Result Outcome Fault
beat t who = do
  session ← some_or (get t.sessions who.sid) (Stale (Session who.sid))
  done (kept_alive t who session)

-- the tree without a session and the files that it kept
abbrev pub without_session : Tree → ℕ → Tree
without_session t sid = record t {
  nodes = retain_keys (λ inode. not (is_sustained t sid inode)) t.nodes;
  sessions = remove t.sessions sid;
  sustained = retain_keys (λ pair. not (pair.sid == sid)) t.sustained;
}

unfoldable pub umount : Tree → Caller → Result Outcome Fault
umount t who = do
  _ ← in_session t who
  done (without_session t who.sid)

-- the tree without a file that a session kept
abbrev pub released : Tree → ℕ → ℕ → Tree
released t sid inode = elim (is_sustained t sid inode) [
  | true ↦ record (drop_node t inode) {
    sustained = remove t.sustained (record {
      sid = sid;
      inode = inode;
    });
  }
  | false ↦ t
]

-- the end of the client's last handle on a file that its session may keep
unfoldable pub release : Tree → Caller → Result Outcome Fault
release t who = do
  _ ← in_session t who
  done (released t who.sid who.inode)

-- the session that a cleaning ends next: the least one other than the cleaner's whose time has come
abbrev pub due_session : Tree → ℕ → ℕ → Option ℕ
due_session t cleaner now = option_map (λ e. e.0)
    (first_where (λ sid entry. not (sid == cleaner) && nat_le entry.expiry now) t.sessions)
