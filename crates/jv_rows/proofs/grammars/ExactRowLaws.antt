-- The grammar of each table is exact.
use Rattle.std.proofs.Common.{[], true, refl, append_assoc, arith}
use Rattle.std.proofs.lemmas.List.{append-nil}
use Rattle.jv_model.specs.promise.rows.RowGrammar.{is_setting, setting_bytes, setting_of, is_counters, counters_bytes, counters_of, is_node, node_bytes, node_of, is_edge, edge_bytes, edge_of, is_slice, slice_bytes, slice_of, is_session, session_bytes, session_of_bytes, sustained_of, dropped_bytes, dropped_of, dead_bytes, dead_of}
use Rattle.jv_rows.specs.RoundTrips.{IsExact, SettingWidths, CountersWidths, NodeWidths, EdgeWidths, SliceWidths, SessionWidths, DroppedWidths, DeadWidths}
use Rattle.jv_rows.proofs.grammars.BoundLaws.{name_bound, bucket_bound}
use Rattle.jv_rows.proofs.grammars.FieldLaws.{byte_field, half_field, word_field, long_field}
use Rattle.jv_rows.proofs.grammars.ReaderLaws.{field_then, text_then, finish, finish_with, exact}

pub setting_exact : IsExact SettingWidths is_setting setting_bytes setting_of
unfolding setting_of setting_bytes
setting_exact =
    exact {read = setting_of} {Known = λ _. Unit {0}} is_setting SettingWidths setting_bytes (
    field_then word_field (λ s. s.version) _ _ _ _ λ version.
    field_then word_field (λ s. s.block) _ _ _ _ λ block.
    field_then word_field (λ s. s.trash_days) _ _ _ _ λ trash_days.
    field_then long_field (λ s. s.capacity) _ _ _ _ λ capacity.
    field_then long_field (λ s. s.inodes) _ _ _ _ λ inodes.
    field_then byte_field (λ s. s.hash) _ _ _ _ λ hash.
    text_then byte_field (λ s. s.name) _ _ _ _ λ name.
    text_then half_field (λ s. s.bucket) _ _ _ _ λ bucket.
    finish is_setting (record { version = version; block = block; trash_days = trash_days; capacity = capacity; inodes = inodes; hash = hash; name = name; bucket = bucket }) _ ((((((((tt, refl), refl), refl), refl), refl), refl), refl), refl) (λ y k. λ i. record { version = k.0.0.0.0.0.0.0.1 i; block = k.0.0.0.0.0.0.1 i; trash_days = k.0.0.0.0.0.1 i; capacity = k.0.0.0.0.1 i; inodes = k.0.0.0.1 i; hash = k.0.0.1 i; name = k.0.1 i; bucket = k.1 i }))
    (λ s. simp (append_assoc, append-nil)) (λ s. tt)
    (λ s f. (record { version = f.0; block = f.1.0; trash_days = f.1.1.0; capacity = f.1.1.1.0; inodes = f.1.1.1.1.0; hash = f.1.1.1.1.1.0; name = f.1.1.1.1.1.1.0.1; bucket = f.1.1.1.1.1.1.1.0.1 }, f.1.1.1.1.1.1.1.1))
    (λ s w a. (w.version, (w.block, (w.trash_days, (w.capacity, (w.inodes, (w.hash, ((omega (arith, name_bound s a), w.name), ((omega (arith, bucket_bound s a), w.bucket), a)))))))))

pub counters_exact : IsExact CountersWidths is_counters counters_bytes counters_of
unfolding counters_of counters_bytes
counters_exact =
    exact {read = counters_of} {Known = λ _. Unit {0}} is_counters CountersWidths counters_bytes (
    field_then long_field (λ c. c.inode) _ _ _ _ λ inode.
    field_then long_field (λ c. c.slice) _ _ _ _ λ slice.
    field_then long_field (λ c. c.session) _ _ _ _ λ session.
    field_then long_field (λ c. c.used_space) _ _ _ _ λ used_space.
    field_then long_field (λ c. c.used_inodes) _ _ _ _ λ used_inodes.
    finish is_counters (record { inode = inode; slice = slice; session = session; used_space = used_space; used_inodes = used_inodes }) _ (((((tt, refl), refl), refl), refl), refl) (λ y k. λ i. record { inode = k.0.0.0.0.1 i; slice = k.0.0.0.1 i; session = k.0.0.1 i; used_space = k.0.1 i; used_inodes = k.1 i }))
    (λ c. refl) (λ c. tt)
    (λ c f. (record { inode = f.0; slice = f.1.0; session = f.1.1.0; used_space = f.1.1.1.0; used_inodes = f.1.1.1.1.0 }, f.1.1.1.1.1))
    (λ c w a. (w.inode, (w.slice, (w.session, (w.used_space, (w.used_inodes, a))))))

pub node_exact : IsExact NodeWidths is_node node_bytes node_of
unfolding node_of node_bytes
node_exact =
    exact {read = node_of} {Known = λ _. Unit {0}} is_node NodeWidths node_bytes (
    field_then byte_field (λ n. n.kind) _ _ _ _ λ kind.
    field_then half_field (λ n. n.mode) _ _ _ _ λ mode.
    field_then word_field (λ n. n.uid) _ _ _ _ λ uid.
    field_then word_field (λ n. n.gid) _ _ _ _ λ gid.
    field_then word_field (λ n. n.nlink) _ _ _ _ λ nlink.
    field_then long_field (λ n. n.mtime) _ _ _ _ λ mtime.
    field_then long_field (λ n. n.ctime) _ _ _ _ λ ctime.
    field_then long_field (λ n. n.length) _ _ _ _ λ length.
    field_then long_field (λ n. n.parent) _ _ _ _ λ parent.
    finish_with is_node (λ target. record { kind = kind; mode = mode; uid = uid; gid = gid; nlink = nlink; mtime = mtime; ctime = ctime; length = length; parent = parent; target = target }) (λ n. n.target) _ (λ t. (((((((((tt, refl), refl), refl), refl), refl), refl), refl), refl), refl)) (λ t. refl) (λ y k. λ i. record { kind = k.0.0.0.0.0.0.0.0.1 i; mode = k.0.0.0.0.0.0.0.1 i; uid = k.0.0.0.0.0.0.1 i; gid = k.0.0.0.0.0.1 i; nlink = k.0.0.0.0.1 i; mtime = k.0.0.0.1 i; ctime = k.0.0.1 i; length = k.0.1 i; parent = k.1 i; target = y.target }))
    (λ n. refl) (λ n. tt)
    (λ n f. (record { kind = f.0; mode = f.1.0; uid = f.1.1.0; gid = f.1.1.1.0; nlink = f.1.1.1.1.0; mtime = f.1.1.1.1.1.0; ctime = f.1.1.1.1.1.1.0; length = f.1.1.1.1.1.1.1.0; parent = f.1.1.1.1.1.1.1.1.0; target = f.1.1.1.1.1.1.1.1.1.0 }, f.1.1.1.1.1.1.1.1.1.1))
    (λ n w a. (w.kind, (w.mode, (w.uid, (w.gid, (w.nlink, (w.mtime, (w.ctime, (w.length, (w.parent, (w.target, a)))))))))))

pub edge_exact : IsExact EdgeWidths is_edge edge_bytes edge_of
unfolding edge_of edge_bytes
edge_exact =
    exact {read = edge_of} {Known = λ _. Unit {0}} is_edge EdgeWidths edge_bytes (
    field_then byte_field (λ e. e.kind) _ _ _ _ λ kind.
    field_then long_field (λ e. e.inode) _ _ _ _ λ inode.
    finish is_edge (record { kind = kind; inode = inode }) _ ((tt, refl), refl) (λ y k. λ i. record { kind = k.0.1 i; inode = k.1 i }))
    (λ e. refl) (λ e. tt)
    (λ e f. (record { kind = f.0; inode = f.1.0 }, f.1.1))
    (λ e w a. (w.kind, (w.inode, a)))

pub slice_exact : IsExact SliceWidths is_slice slice_bytes slice_of
unfolding slice_of slice_bytes
slice_exact =
    exact {read = slice_of} {Known = λ _. Unit {0}} is_slice SliceWidths slice_bytes (
    field_then word_field (λ s. s.size) _ _ _ _ λ size.
    field_then long_field (λ s. s.count) _ _ _ _ λ count.
    finish is_slice (record { size = size; count = count }) _ ((tt, refl), refl) (λ y k. λ i. record { size = k.0.1 i; count = k.1 i }))
    (λ s. refl) (λ s. tt)
    (λ s f. (record { size = f.0; count = f.1.0 }, f.1.1))
    (λ s w a. (w.size, (w.count, a)))

pub session_exact : IsExact SessionWidths is_session session_bytes session_of_bytes
unfolding session_of_bytes session_bytes
session_exact =
    exact {read = session_of_bytes} {Known = λ _. Unit {0}} is_session SessionWidths session_bytes (
    field_then byte_field (λ s. s.client) _ _ _ _ λ client.
    field_then long_field (λ s. s.expiry) _ _ _ _ λ expiry.
    finish is_session (record { client = client; expiry = expiry }) _ ((tt, refl), refl) (λ y k. λ i. record { client = k.0.1 i; expiry = k.1 i }))
    (λ s. refl) (λ s. tt)
    (λ s f. (record { client = f.0; expiry = f.1.0 }, f.1.1))
    (λ s w a. (w.client, (w.expiry, a)))

pub sustained_exact : IsExact (λ _. Unit {0}) (λ _. true) (λ _. []) sustained_of
unfolding sustained_of
sustained_exact =
    exact {read = sustained_of} {Known = λ _. Unit {0}} (λ _. true) (λ _. Unit {0}) (λ _. []) (finish (λ _. true) tt _ tt (λ y k. refl)) (λ u. refl) (λ u. tt) (λ u f. (tt, f)) (λ u w a. a)

pub dropped_exact : IsExact DroppedWidths (λ _. true) dropped_bytes dropped_of
unfolding dropped_of dropped_bytes
dropped_exact =
    exact {read = dropped_of} {Known = λ _. Unit {0}} (λ _. true) DroppedWidths dropped_bytes (
    field_then long_field (λ d. d.length) _ _ _ _ λ length.
    finish (λ _. true) (record { length = length }) _ (tt, refl) (λ y k. λ i. record { length = k.1 i }))
    (λ d. refl) (λ d. tt)
    (λ d f. (record { length = f.0 }, f.1))
    (λ d w a. (w.length, a))

pub dead_exact : IsExact DeadWidths (λ _. true) dead_bytes dead_of
unfolding dead_of dead_bytes
dead_exact =
    exact {read = dead_of} {Known = λ _. Unit {0}} (λ _. true) DeadWidths dead_bytes (
    field_then word_field (λ d. d.size) _ _ _ _ λ size.
    field_then long_field (λ d. d.due) _ _ _ _ λ due.
    finish (λ _. true) (record { size = size; due = due }) _ ((tt, refl), refl) (λ y k. λ i. record { size = k.0.1 i; due = k.1 i }))
    (λ d. refl) (λ d. tt)
    (λ d f. (record { size = f.0; due = f.1.0 }, f.1.1))
    (λ d w a. (w.size, (w.due, a)))
