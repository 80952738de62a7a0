-- Operations of several clients in a row on one tree, with the least of clients that they need: a session and open files.
use Rattle.std.specs.Prelude.{ℕ, ◌+◌, ◌-◌, zero, suc, min, ◌==◌, nat_lt, if◌then◌else◌, List, [], ◌∷◌, ◌++◌, length, filter}
use Rattle.std.specs.Prelude.{slice_index, Option, None, Some, codes}
use Rattle.jv_model.specs.declared.fault.Fault.TheVariants.{Stale}
use Rattle.jv_model.specs.declared.fault.Gone.TheVariants.{Node as GoneNode}
use Rattle.jv_model.specs.declared.op.Op.{Op}
use Rattle.jv_model.specs.declared.op.Op.TheVariants as op
use Rattle.jv_model.specs.declared.op.Reply.{Reply}
use Rattle.jv_model.specs.declared.op.Reply.TheVariants.{Refused, Done, SessionMade, FileOpened, Data, Count}
use Rattle.jv_model.specs.declared.setting.Setting.{Setting}
use Rattle.jv_model.specs.promise.tree.Tree.{Tree, Content, content_at}
use Rattle.jv_model.specs.tree.Tree.{fresh_tree}
use Rattle.jv_model.specs.promise.tree.Changes.{byte_within}
use Rattle.jv_model.specs.promise.tree.Caller.{Caller, Outcome}
use Rattle.jv_model.specs.promise.tree.FileBytes.{committed}
use Rattle.jv_model.specs.promise.tree.Trash.{due_purge, purged}
use Rattle.jv_model.specs.promise.tree.Sessions.{due_session, without_session}
use Rattle.jv_model.specs.promise.tree.TreeAct.{tree_act}
use Rattle.jv_model.specs.promise.script.ReplyText.{reply_text}
use Rattle.jv_model.specs.promise.script.Printed.{number_word}
use Rattle.jv_model.specs.promise.journal.State.{with_client}

-- a client: its session, and the inodes of its handles from 1 on, 0 where a handle isn't in use
pub record RunClient : Type 0 where
  pub sid : ℕ
  pub files : List ℕ

pub record RunState : Type 0 where
  pub tree : Tree
  pub now : ℕ
  pub clients : ℕ → RunClient

-- an operation of a client, seconds that pass, or one step of a cleaning by a client
pub data Event : Type 0 where
  Asks : (client : ℕ) → Op → Event
  Ticks : ℕ → Event
  Expires : (client : ℕ) → Event
  Purges : Event

abbrev pub free_from : ℕ → List ℕ → ℕ
free_from handle [] = handle
free_from handle (zero ∷ files) = handle
free_from handle (suc inode ∷ files) = free_from (handle + 1) files

-- handles counted from 0
abbrev pub with_inode : ℕ → ℕ → List ℕ → List ℕ
with_inode place inode [] = inode ∷ []
with_inode zero inode (file ∷ files) = inode ∷ files
with_inode (suc place) inode (file ∷ files) = file ∷ with_inode place inode files

abbrev pub inode_at : List ℕ → ℕ → ℕ
inode_at files handle = (if handle == 0 then 0 else slice_index files (handle - 1))

abbrev pub first_handle : Op → ℕ
first_handle (op.Close handle) = handle
first_handle (op.Fstat handle) = handle
first_handle (op.Truncate handle len) = handle
first_handle (op.Copy source from target to len) = source
first_handle (op.Read handle offset len) = handle
first_handle (op.Write handle offset bytes) = handle
first_handle _ = 0

abbrev pub second_handle : Op → ℕ
second_handle (op.Copy source from target to len) = target
second_handle _ = 0

abbrev pub caller : RunState → ℕ → Op → Caller
caller s client ask = record {
  client = client;
  sid = (s.clients client).sid;
  now = s.now;
  free_handle = free_from 1 (s.clients client).files;
  held = filter (λ inode. nat_lt 0 inode) (s.clients client).files;
  inode = inode_at (s.clients client).files (first_handle ask);
  other = inode_at (s.clients client).files (second_handle ask);
}

abbrev pub bytes_from : Content → ℕ → ℕ → List ℕ
bytes_from content from zero = []
bytes_from content from (suc len) = byte_within content from ∷ bytes_from content (from + 1) len

abbrev pub read_reply : ℕ → ℕ → ℕ → Option Content → Reply
read_reply inode from len None = Refused (Stale (GoneNode inode))
read_reply inode from len (Some content) = Data (bytes_from content from (min len (content.length - from)))

-- A write is committed at once, and a read reads the file as it is.
abbrev pub outcome_of : Tree → Caller → Op → Outcome
outcome_of t who (op.Write handle offset bytes) = record { tree = committed t who.now who.inode offset bytes; reply = Count (length bytes) }
outcome_of t who (op.Read handle offset len) = record { tree = t; reply = read_reply who.inode offset len (content_at t who.inode) }
outcome_of t who ask = tree_act t who ask

-- what an answer makes of the client
abbrev pub client_after : Op → Reply → RunClient → RunClient
client_after ask (SessionMade sid) c = record c { sid = sid }
client_after ask (FileOpened handle inode) c = record c { files = with_inode (handle - 1) inode c.files }
client_after (op.Close handle) Done c = record c { files = with_inode (handle - 1) 0 c.files }
client_after op.Umount Done c = record { sid = 0; files = [] }
client_after ask reply c = c

-- a state, and the text of an answer
pub record Turn : Type 0 where
  pub state : RunState
  pub text : List ℕ

abbrev pub asked : RunState → ℕ → Op → Outcome → Turn
asked s client ask o = record {
  state = record s { tree = o.tree; clients = with_client s.clients client (client_after ask o.reply (s.clients client)) };
  text = reply_text s.tree.setting o.reply;
}

abbrev pub turn : RunState → Event → Turn
turn s (Asks client ask) = asked s client ask (outcome_of s.tree (caller s client ask) ask)
turn s (Ticks by) = record { state = record s { now = s.now + by }; text = codes "-" }
turn s (Expires client) = elim (due_session s.tree (s.clients client).sid s.now) [
  | None ↦ record { state = s; text = codes "none" }
  | Some sid ↦ record { state = record s { tree = without_session s.tree sid }; text = codes "expired" ++ number_word sid }
]
turn s Purges = elim (due_purge s.tree s.now) [
  | None ↦ record { state = s; text = codes "none" }
  | Some inode ↦ record { state = record s { tree = purged s.tree inode }; text = codes "purged" ++ number_word inode }
]

-- the texts of a row of events
abbrev pub texts : RunState → List Event → List (List ℕ)
texts s [] = []
texts s (event ∷ events) =
    let next = turn s event in
    next.text ∷ texts next.state events

-- where a row of events leads
abbrev pub state_after : RunState → List Event → RunState
state_after s [] = s
state_after s (event ∷ events) = state_after (turn s event).state events

-- a volume without a limit and without trash, made at a moment
abbrev pub plain_setting : Setting
plain_setting = record {
  version = 1;
  block = 65536;
  trash_days = 0;
  capacity = 0;
  inodes = 0;
  hash = 0;
  name = codes "test";
  bucket = codes "b";
}

abbrev pub start_of : Setting → ℕ → RunState
start_of setting now = record { tree = fresh_tree setting now; now = now; clients = λ _. record { sid = 0; files = [] } }

abbrev pub plain_start : RunState
plain_start = start_of plain_setting 1000

-- a volume whose trash keeps files for a day
abbrev pub trash_start : RunState
trash_start = start_of (record plain_setting { trash_days = 1 }) 1000
