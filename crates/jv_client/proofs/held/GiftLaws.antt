-- What a reply hands to a client stands for what the model has for its own, and is of files.
use Rattle.std.proofs.Common.{◌≡◌, ℕ, ◌+◌, Bool, true, false, ◌||◌, List, [], ◌∷◌, ◌++◌, Option, None, Some}
use Rattle.std.proofs.Common.{inl, inr, refl, sym, ap, subst, ◌∙◌, arith}
use Rattle.std.specs.Prelude.{◌==◌}
use Rattle.std.proofs.lemmas.Bool.{eqb-true, or_cases}
use Rattle.std.proofs.lemmas.List.Folds.{list_any-append}
use Rattle.jv_model.specs.declared.profile.Does.{Does}
use Rattle.jv_model.specs.promise.tree.Tree.{Tree}
use Rattle.jv_model.specs.promise.client.ModelClient.{ModelClient, OpenFile, free_handle, with_file}
use Rattle.jv_model.specs.promise.journal.State.{Gift, NewSession, NewHandle, Nothing, given}
use Rattle.jv_model.specs.promise.Lists.{is_among}
use Rattle.jv_volume.specs.Holding.{IsHoldable}
use Rattle.jv_links.specs.Removals.{is_inode}
use Rattle.jv_client_shared.specs.promise.Shared.{Known, Shared, depot_in}
use Rattle.jv_client_handles.specs.Handles.{new_handle}
use Rattle.jv_client_handles.specs.Held.{AreHandles}
use Rattle.jv_client_handles.proofs.HandleLaws.{handles-later, handles-opened}
use Rattle.jv_client_handles.proofs.SeenLaws.{views-later}
use Rattle.jv_model_steps.proofs.GiftLaws.{IsDirect, direct-given}
use Rattle.jv_client.specs.ClientValue.{ClientValue}
use Rattle.jv_client.specs.Held.{IsHeld, Holds}
use Rattle.jv_client.specs.Transacting.{handles_given, session_given, sustained_with}
use Rattle.jv_client.proofs.held.DirectLaws.{direct-with_file, has-new}
use Rattle.jv_client.proofs.held.EndingLaws.{open-with_file}

-- a handle is the client's free one, and on a file
abbrev pub IsGift : Tree → ℕ → Gift → Type 0
IsGift t free (NewHandle handle inode) = (handle ≡ free) × IsHoldable t inode
IsGift t free _ = Unit {0}

-- what the client is with the files that its session keeps from then on
module _ (g : Known) (v : Shared) (t : Tree) (count : ℕ) (what : Does) (gone : List ℕ) (kept : Option ℕ)
    (m : ModelClient) (h : ClientValue)
    (same : (inode : ℕ) → is_among inode (gone ++ m.sustained) ≡ is_among inode (sustained_with kept h.sustained)) where
  abbrev kept_client : ModelClient
  kept_client = record m { sustained = gone ++ m.sustained }

  abbrev given_to : Gift → ClientValue
  given_to gift = record h {
    session = session_given gift h.session;
    handles = handles_given (count + 1) gift h.handles;
    sustained = sustained_with kept h.sustained;
  }

  pub held-given : (gift : Gift) → IsDirect what → IsGift t (free_handle h.handles) gift → IsHeld g v m count h
      → IsHeld g v (given (count + 1) what gift kept_client) (count + 1) (given_to gift)
  held-given (NewSession sid) direct fits held = record {
    session = refl;
    removed = same;
    handles = handles-later g v m.views count (count + 1) (omega arith) m.handles h.handles held.handles;
    views = views-later count (count + 1) m.views (omega arith) held.views;
    pending = held.pending;
    direct = record {
      mode = direct-given (count + 1) what (NewSession sid) kept_client direct held.direct.mode;
      seen = held.direct.seen;
    };
  }
  held-given (NewHandle handle inode) direct fits held =
      let views = views-later count (count + 1) m.views (omega arith) held.views in
      let file : OpenFile = record { inode = inode; opened = count + 1 } in
      let new = new_handle inode (count + 1) in
      let table = handles-opened g v m.views count (count + 1) inode refl views m.handles h.handles held.handles handle
      in
      record {
        session = held.session;
        removed = same;
        handles = subst (λ n. AreHandles g v m.views (count + 1) (with_file handle (Some file) m.handles)
            (with_file n (Some new) h.handles)) fits.0 table;
        views = views;
        pending = held.pending;
        direct = direct-with_file v.yard.setting.block (depot_in v) m.writeback h.handles held.direct
            (free_handle h.handles) (Some new) (has-new v.yard.setting.block (depot_in v) inode (count + 1));
      }
  held-given Nothing direct fits held = record {
    session = held.session;
    removed = same;
    handles = handles-later g v m.views count (count + 1) (omega arith) m.handles h.handles held.handles;
    views = views-later count (count + 1) m.views (omega arith) held.views;
    pending = held.pending;
    direct = held.direct;
  }

-- the model's client has nothing open but files
pub holds-given : (t : Tree) (entry : ℕ) (what : Does) (gone : List ℕ) (m : ModelClient) (free : ℕ) (gift : Gift)
    → IsGift t free gift → Holds t m → Holds t (given entry what gift (record m { sustained = gone ++ m.sustained }))
holds-given t entry what gone m free (NewSession sid) fits holds =
    record { opened = holds.opened; pending = holds.pending }
holds-given t entry what gone m free (NewHandle handle inode) fits holds = record {
  opened = λ other among.
      let file : OpenFile = record { inode = inode; opened = entry } in
      elim (open-with_file other (Some file) handle m.handles among) [
        | inl new ↦ elim (or_cases (inode == other) false new) [
          | inl own ↦ subst (IsHoldable t) (eqb-true inode other own) fits.1
          | inr none ↦ absurd (cc)
        ]
        | inr old ↦ holds.opened other old
      ];
  pending = holds.pending;
}
holds-given t entry what gone m free Nothing fits holds = record { opened = holds.opened; pending = holds.pending }

-- the files that a session keeps from then on

or_last : (a b : Bool) → (a || b) ≡ (b || (a || false))
or_last true true = refl
or_last true false = refl
or_last false true = refl
or_last false false = refl

pub among-kept : (kept : Option ℕ) (gone xs ys : List ℕ) (inode : ℕ) → is_among inode gone ≡ is_inode kept inode
    → is_among inode xs ≡ is_among inode ys → is_among inode (gone ++ xs) ≡ is_among inode (sustained_with kept ys)
among-kept kept gone xs ys inode own same =
    list_any-append (λ i. i == inode) gone xs ∙ ap (λ b. b || is_among inode xs) own
    ∙ ap (λ b. is_inode kept inode || b) same ∙ by_kept kept
  where
    by_kept : (kept : Option ℕ) → (is_inode kept inode || is_among inode ys) ≡ is_among inode (sustained_with kept ys)
    by_kept None = refl
    by_kept (Some one) =
        or_last (one == inode) (is_among inode ys) ∙ sym (list_any-append (λ i. i == inode) ys (one ∷ []))
