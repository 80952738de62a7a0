-- Answers of every form, and their printed lines.
use Rattle.std.proofs.Common.{◌≡◌, Some, None, [], ◌∷◌, ◌++◌, refl, codes}
use Rattle.std.specs.Prelude.{⊤}
use Rattle.std.specs.Fmt.{digits}
use Rattle.jv_model.specs.declared.fault.Device.TheVariants.{Carrier}
use Rattle.jv_model.specs.declared.fault.Gone.TheVariants.{Session, Node}
use Rattle.jv_model.specs.declared.fault.Busy.TheVariants.{Misses, Lists}
use Rattle.jv_model.specs.declared.fault.Fault.TheVariants as fault
use Rattle.jv_model.specs.declared.op.Reply.TheVariants as reply
use Rattle.jv_model.specs.declared.setting.FileKind.TheVariants.{File, Directory}
use Rattle.jv_model.specs.declared.setting.Setting.{Setting}
use Rattle.jv_model.specs.promise.blocks.BlockNames.{block_name_of}
use Rattle.jv_model.specs.promise.script.Printed.{data_text, fault_name, fault_words}
use Rattle.jv_model.specs.promise.script.ReplyText.{name_text, path_text, attr_words, entries_text, uploaded_text, reply_text, printed_line}

-- on an `unfolding` line: computes the printed line of an answer that is written out
unfoldable pub replies_on_literals : ⊤
unfolding digits data_text fault_name fault_words name_text path_text attr_words entries_text uploaded_text block_name_of reply_text
replies_on_literals = tt

-- a volume without hash prefix
abbrev pub volume : Setting
volume = record { version = 1; block = 65536; trash_days = 1; capacity = 0; inodes = 0; hash = 0; name = codes "test"; bucket = codes "b" }

pub successes : (printed_line volume reply.Done ≡ codes "ok\n") × (printed_line volume (reply.SessionMade 1) ≡ codes "ok 1\n") × (printed_line volume (reply.FileOpened 1 2) ≡ codes "ok 1 2\n") × (printed_line volume (reply.Count 18446744073709551615) ≡ codes "ok 18446744073709551615\n") × (printed_line volume (reply.Found 0) ≡ codes "ok 0\n") × (printed_line volume (reply.Compaction 3 1) ≡ codes "ok 3 1\n")
unfolding replies_on_literals
successes = (refl, refl, refl, refl, refl, refl)

pub datas : (printed_line volume (reply.Data []) ≡ codes "ok -\n") × (printed_line volume (reply.Data (104 ∷ 105 ∷ [])) ≡ codes "ok 6869\n")
unfolding replies_on_literals
datas = (refl, refl)

-- names keep a few bytes, and paths and targets the slash as well
pub names : (printed_line volume (reply.Entries []) ≡ codes "ok -\n") × (printed_line volume (reply.Entries ((codes "a b", 2) ∷ (codes "~.", 10) ∷ [])) ≡ codes "ok a%20b:2 ~.:10\n") × (printed_line volume (reply.Target (codes "/a%" ++ 255 ∷ [])) ≡ codes "ok /a%25%FF\n")
unfolding replies_on_literals
names = (refl, refl, refl)

pub attrs : (printed_line volume (reply.Described (record { inode = 2; kind = File; mode = 420; nlink = 1; uid = 0; gid = 7; size = 3; mtime = 1000; ctime = 1001 })) ≡ codes "ok 2 f 0644 1 0 7 3 1000 1001\n") × (printed_line volume (reply.Described (record { inode = 1; kind = Directory; mode = 4095; nlink = 2; uid = 0; gid = 0; size = 4096; mtime = 0; ctime = 0 })) ≡ codes "ok 1 d 7777 2 0 0 4096 0 0\n")
unfolding replies_on_literals
attrs = (refl, refl)

pub uploads : (printed_line volume (reply.Uploaded None) ≡ codes "ok -\n") × (printed_line volume (reply.Uploaded (Some (record { id = 1; index = 0; size = 65536 }))) ≡ codes "ok test/chunks/0/0/1_0_65536\n")
unfolding replies_on_literals
uploads = (refl, refl)

pub refusals : (printed_line volume (reply.Refused fault.NotFound) ≡ codes "err ENOENT\n") × (printed_line volume (reply.Refused (fault.TryAgain 11)) ≡ codes "err EAGAIN 11\n") × (printed_line volume (reply.Refused (fault.Stale (Session 2))) ≡ codes "err ESTALE session 2\n") × (printed_line volume (reply.Refused (fault.Stale (Node 3))) ≡ codes "err ESTALE inode 3\n") × (printed_line volume (reply.Refused (fault.TimedOut 1000 4600)) ≡ codes "err ETIMEDOUT 1000 4600\n") × (printed_line volume (reply.Refused (fault.Contended (Misses 10))) ≡ codes "err EBUSY misses 10\n") × (printed_line volume (reply.Refused (fault.Contended (Lists 2 3))) ≡ codes "err EBUSY list 2 3\n") × (printed_line volume (reply.Refused (fault.DeviceFailed Carrier)) ≡ codes "err EIO carrier\n")
unfolding replies_on_literals
refusals = (refl, refl, refl, refl, refl, refl, refl, refl)
