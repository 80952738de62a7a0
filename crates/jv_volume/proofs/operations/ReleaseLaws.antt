-- A session that ends, pair by pair: each file that it kept is released first, and then the session is gone.
use Rattle.std.proofs.Common.{◌≡◌, ◌≢◌, ℕ, Bool, true, false, cond, not, inl, inr, Option, None, refl, sym, ap, ◌∙◌, ◌⊎◌, eq-eqb, eqb-true}
use Rattle.std.specs.Prelude.{◌==◌, is_some}
use Rattle.std.proofs.lemmas.Bool.{cases_eq}
use Rattle.jv_model.specs.promise.FiniteMap.{number_key, get, remove, retain_keys}
use Rattle.jv_model.specs.promise.tree.Tree.{Tree, Node, SustainedFile, pair_key, is_sustained}
use Rattle.jv_model.specs.promise.tree.Sessions.{without_session, released}
use Rattle.jv_model.proofs.FiniteMapLaws.{get-retain_keys, same_maps}
use Rattle.jv_model.proofs.TestLaws.{none_if}
use Rattle.jv_volume.proofs.shapes.ShapeMapLaws.{same_or_apart, get-removed, get-remove_apart, pair_of}

-- the tree without a file that a session keeps
abbrev pub released_tree : Tree → ℕ → ℕ → Tree
released_tree t sid inode = record t { nodes = remove t.nodes inode; sustained = remove t.sustained (record { sid = sid; inode = inode }) }

pub released-kept : (t : Tree) (sid inode : ℕ) → is_sustained t sid inode ≡ true → released t sid inode ≡ released_tree t sid inode
released-kept t sid inode is = ap (λ b. elim b [ true ↦ released_tree t sid inode | false ↦ t ]) is

pub released-other : (t : Tree) (sid inode : ℕ) → is_sustained t sid inode ≡ false → released t sid inode ≡ t
released-other t sid inode is = ap (λ b. elim b [ true ↦ released_tree t sid inode | false ↦ t ]) is

module _ (t : Tree) (sid inode : ℕ) (is : is_sustained t sid inode ≡ true) where
  still_kept : (j : ℕ) → j ≢ inode → is_sustained (released_tree t sid inode) sid j ≡ is_sustained t sid j
  still_kept j apart = ap is_some (get-remove_apart pair_key t.sustained (pair_of sid inode) (pair_of sid j)
      (λ same. apart (ap (λ (p : SustainedFile). p.inode) same)))

  node_alike : (j : ℕ) → get (retain_keys (λ i. not (is_sustained (released_tree t sid inode) sid i)) (remove t.nodes inode)) j
      ≡ get (retain_keys (λ i. not (is_sustained t sid i)) t.nodes) j
  node_alike j =
      get-retain_keys (remove t.nodes inode) (λ i. not (is_sustained (released_tree t sid inode) sid i)) j
      ∙ by_inode (cases_eq j inode)
      ∙ sym (get-retain_keys t.nodes (λ i. not (is_sustained t sid i)) j)
    where
      either : (b : Bool) (x : Option Node) → x ≡ None → cond b x None ≡ None
      either true x e = e
      either false x e = refl

      by_inode : (j ≡ inode) ⊎ (j ≢ inode) → cond (not (is_sustained (released_tree t sid inode) sid j)) (get (remove t.nodes inode) j) None
          ≡ cond (not (is_sustained t sid j)) (get t.nodes j) None
      by_inode (inl same) =
          either (not (is_sustained (released_tree t sid inode) sid j)) (get (remove t.nodes inode) j) (ap (get (remove t.nodes inode)) same
          ∙ get-removed number_key t.nodes inode)
          ∙ sym (ap (λ b. cond (not b) (get t.nodes j) None) (ap (is_sustained t sid) same ∙ is))
      by_inode (inr apart) = λ i. cond (not (still_kept j apart i)) (get-remove_apart number_key t.nodes inode j apart i) None

  pair_alike : (p : SustainedFile) → get (retain_keys (λ q. not (q.sid == sid)) (remove t.sustained (pair_of sid inode))) p
      ≡ get (retain_keys (λ q. not (q.sid == sid)) t.sustained) p
  pair_alike p =
      get-retain_keys (remove t.sustained (pair_of sid inode)) (λ q. not (q.sid == sid)) p
      ∙ by_pair (same_or_apart pair_key p (pair_of sid inode))
      ∙ sym (get-retain_keys t.sustained (λ q. not (q.sid == sid)) p)
    where
      by_pair : (p ≡ pair_of sid inode) ⊎ (p ≢ pair_of sid inode)
          → cond (not (p.sid == sid)) (get (remove t.sustained (pair_of sid inode)) p) None ≡ cond (not (p.sid == sid)) (get t.sustained p) None
      by_pair (inl same) =
          let out : (p.sid == sid) ≡ true = ap (λ (q : SustainedFile). q.sid == sid) same ∙ eq-eqb sid sid refl in
          ap (λ b. cond (not b) (get (remove t.sustained (pair_of sid inode)) p) None) out ∙ sym (ap (λ b. cond (not b) (get t.sustained p) None) out)
      by_pair (inr apart) = ap (λ o. cond (not (p.sid == sid)) o None) (get-remove_apart pair_key t.sustained (pair_of sid inode) p apart)

  -- a file released first makes no difference
  pub without_session-released : without_session (released t sid inode) sid ≡ without_session t sid
  without_session-released =
      ap (λ (u : Tree). without_session u sid) (released-kept t sid inode is)
      ∙ (λ i. record t {
        nodes = same_maps (retain_keys (λ k. not (is_sustained (released_tree t sid inode) sid k)) (remove t.nodes inode))
            (retain_keys (λ k. not (is_sustained t sid k)) t.nodes) node_alike i;
        sessions = remove t.sessions sid;
        sustained = same_maps (retain_keys (λ (q : SustainedFile). not (q.sid == sid)) (remove t.sustained (pair_of sid inode)))
            (retain_keys (λ (q : SustainedFile). not (q.sid == sid)) t.sustained) pair_alike i;
      })

-- a session that keeps no file is only removed
pub without_session-alone : (t : Tree) (sid : ℕ) → ((inode : ℕ) → is_sustained t sid inode ≡ false)
    → without_session t sid ≡ record t { sessions = remove t.sessions sid }
without_session-alone t sid none = λ i. record t {
  nodes = same_maps (retain_keys (λ k. not (is_sustained t sid k)) t.nodes) t.nodes (λ j. get-retain_keys t.nodes (λ k. not (is_sustained t sid k)) j
      ∙ ap (λ b. cond (not b) (get t.nodes j) None) (none j)) i;
  sessions = remove t.sessions sid;
  sustained = same_maps (retain_keys (λ (q : SustainedFile). not (q.sid == sid)) t.sustained) t.sustained
      (λ p. get-retain_keys t.sustained (λ q. not (q.sid == sid)) p ∙ by_sid p (p.sid == sid) refl) i;
}
  where
    by_sid : (p : SustainedFile) (b : Bool) → (p.sid == sid) ≡ b → cond (not b) (get t.sustained p) None ≡ get t.sustained p
    by_sid p true e = sym (none_if (get t.sustained p) (ap (λ s. is_sustained t s p.inode) (eqb-true p.sid sid e) ∙ none p.inode))
    by_sid p false e = refl
