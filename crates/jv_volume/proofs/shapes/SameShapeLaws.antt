-- Changes of attributes, times, bytes and of a session's expiry leave the shape, and so keep a tree whole.
use Rattle.std.proofs.Common.{◌≡◌, ℕ, ◌+◌, Bool, true, false, ◌==◌, inl, inr, List, Option, None, Some, is_some, refl, sym, ap, subst, ◌∙◌}
use Rattle.jv_model.specs.declared.lifetimes.TheConstants.{SESSION_LIFE}
use Rattle.jv_model.specs.promise.FiniteMap.{number_key, get, insert}
use Rattle.jv_model.specs.promise.tree.Tree.{Tree, Node, Content, SessionEntry, node_at, content_in, content_at}
use Rattle.jv_model.specs.promise.tree.Changes.{status_changed, put_node, with_content, change_node, overwritten, resized, copied_over}
use Rattle.jv_model.specs.promise.tree.Caller.{Caller}
use Rattle.jv_model.specs.promise.tree.FileBytes.{committed, truncated, copied, copied_between}
use Rattle.jv_model.specs.promise.tree.Sessions.{kept_alive}
use Rattle.jv_volume.specs.promise.Shape.{Shape, WholeShape, form_of, shape_of}
use Rattle.jv_volume.proofs.shapes.ShapeMapLaws.{same_or_apart, get-inserted, get-insert_apart, with_form, with_form-same, with_forms, shape-put_node_same, shape-change_node, shape-change_node_same, form-content, kind_form, form-kind}

-- a tree of the same shape is whole
pub whole_as : (s after : Shape) → after ≡ s → WholeShape s → WholeShape after
whole_as s after same w = subst WholeShape (sym same) w

-- attributes

-- a node in place of one of its kind, as chmod, chown and utimes put it
pub shape-attributes : (t : Tree) (inode : ℕ) (node after : Node) → node_at t inode ≡ Some node → after.kind ≡ node.kind
    → shape_of (put_node t inode after) ≡ shape_of t
shape-attributes t inode node after there same = shape-put_node_same t inode after
    (form-kind after ∙ ap kind_form same ∙ sym (form-kind node) ∙ sym (ap form_of there))

-- so a whole tree stays whole
pub whole-attributes : (t : Tree) (inode : ℕ) (node after : Node) → node_at t inode ≡ Some node → after.kind ≡ node.kind → WholeShape (shape_of t)
    → WholeShape (shape_of (put_node t inode after))
whole-attributes t inode node after there same = whole_as _ _ (shape-attributes t inode node after there same)

-- a node whose attributes or links changed
pub shape-status_changed : (t : Tree) (now inode : ℕ) → shape_of (change_node t inode (status_changed now)) ≡ shape_of t
shape-status_changed t now inode = shape-change_node_same t inode (status_changed now) (λ node. refl)

-- bytes

file_again : (t : Tree) (now inode : ℕ) (old content : Content) (o : Option Node) → node_at t inode ≡ o → content_at t inode ≡ Some old
    → shape_of (with_content t now inode content) ≡ shape_of t
file_again t now inode old content None e is = absurd (let none : content_at t inode ≡ None = ap content_in e in cc)
file_again t now inode old content (Some node) e is = shape-change_node t inode _ node e
    ∙ ap (λ f. with_forms (shape_of t) (with_form (shape_of t).form inode f)) (sym (form-content (node_at t inode) old is))
    ∙ (λ i. record (shape_of t) { form = λ other. with_form-same (shape_of t).form inode other i })

-- a file with other bytes
pub shape-with_content : (t : Tree) (now inode : ℕ) (old content : Content) → content_at t inode ≡ Some old
    → shape_of (with_content t now inode content) ≡ shape_of t
shape-with_content t now inode old content is = file_again t now inode old content (node_at t inode) refl is

-- bytes committed to a file
pub shape-committed : (t : Tree) (now inode from : ℕ) (bytes : List ℕ) → shape_of (committed t now inode from bytes) ≡ shape_of t
shape-committed t now inode from bytes = elim (content_at t inode) as (λ o. content_at t inode ≡ o → shape_of (elim o as (λ _. Tree) [
  | None ↦ t
  | Some content ↦ with_content t now inode (overwritten content from bytes)
]) ≡ shape_of t) [
  | None ↦ λ e. refl
  | Some content ↦ λ e. shape-with_content t now inode content (overwritten content from bytes) e
] refl

-- a file cut to a length, or with zeros up to it
pub shape-truncated : (t : Tree) (now inode len : ℕ) → shape_of (truncated t now inode len) ≡ shape_of t
shape-truncated t now inode len = elim (content_at t inode) as (λ o. content_at t inode ≡ o → shape_of (elim o as (λ _. Tree) [
  | None ↦ t
  | Some content ↦ with_content t now inode (resized content len)
]) ≡ shape_of t) [
  | None ↦ λ e. refl
  | Some content ↦ λ e. shape-with_content t now inode content (resized content len) e
] refl

between_same : (t : Tree) (now : ℕ) (source : Option Content) (from target : ℕ) (content : Option Content) (to len : ℕ) → content_at t target ≡ content
    → shape_of (copied_between t now source from target content to len) ≡ shape_of t
between_same t now None from target content to len e = refl
between_same t now (Some source) from target None to len e = refl
between_same t now (Some source) from target (Some content) to len e = shape-with_content t now target content (copied_over source from content to len) e

unless : (b : Bool) (t after : Tree) → shape_of after ≡ shape_of t → shape_of (elim b as (λ _. Tree) [ true ↦ t | false ↦ after ]) ≡ shape_of t
unless true t after same = refl
unless false t after same = same

-- bytes of one file put into another
pub shape-copied : (t : Tree) (now source from target to len : ℕ) → shape_of (copied t now source from target to len) ≡ shape_of t
shape-copied t now source from target to len = unless (len == 0) t (copied_between t now (content_at t source) from target (content_at t target) to len)
    (between_same t now (content_at t source) from target (content_at t target) to len refl)

-- sessions

alive_again : (t : Tree) (who : Caller) (session : SessionEntry) (sid : ℕ) → get t.sessions who.sid ≡ Some session
    → is_some (get (insert t.sessions who.sid (record session { expiry = who.now + SESSION_LIFE })) sid) ≡ is_some (get t.sessions sid)
alive_again t who session sid there = elim (same_or_apart number_key sid who.sid) [
  | inl same ↦ ap (λ k. is_some (get (insert t.sessions who.sid (record session { expiry = who.now + SESSION_LIFE })) k)) same
      ∙ ap is_some (get-inserted number_key t.sessions who.sid _) ∙ ap is_some (sym there) ∙ ap (λ k. is_some (get t.sessions k)) (sym same)
  | inr apart ↦ ap is_some (get-insert_apart number_key t.sessions who.sid _ sid apart)
]

-- a session that showed a sign of life
pub shape-kept_alive : (t : Tree) (who : Caller) (session : SessionEntry) → get t.sessions who.sid ≡ Some session
    → shape_of (kept_alive t who session) ≡ shape_of t
shape-kept_alive t who session there = λ i. record (shape_of t) { in_session = λ sid. alive_again t who session sid there i }
