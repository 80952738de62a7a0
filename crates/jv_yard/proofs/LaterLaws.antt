-- Later is reflexive and transitive, and keeps that all copies of one name are alike.
use Rattle.std.proofs.Common.{◌≡◌, ◌⊎◌, ℕ, ◌≤◌, ◌<◌, false, List, [], ◌++◌, Option, None, Some, IsSome, is_some, refl, sym, ap, subst, ◌∙◌, inl, inr, append_assoc, append-nil}
use Rattle.std.specs.Option.{option_map}
use Rattle.std.proofs.lemmas.List.Elements.{All-nil, All-append, Contains-append_left, Contains-append_right}
use Rattle.jv_model.specs.declared.limits.TheConstants.{LAST_CLIENT}
use Rattle.jv_model.specs.declared.setting.Setting.{Setting}
use Rattle.jv_model.specs.promise.FiniteMap.{get}
use Rattle.jv_model.proofs.TestLaws.{some_of}
use Rattle.jv_outside.specs.promise.Objects.{ObjectMap, bytes_at}
use Rattle.jv_outside.specs.promise.Blocks.{StagedMap, staged_at}
use Rattle.jv_yard.specs.declared.note.Note.{Note}
use Rattle.jv_yard.specs.promise.Staging.{staged_since}
use Rattle.jv_yard.specs.promise.YardValue.{YardValue, KeepsStaged, NamesBlock}
use Rattle.jv_yard.specs.Later.{HasPublish, Contents, contents_of, WasStaged, IsCopy, AreAlike, IsPublishedFrom, ContentsLater, Later}
use Rattle.std.proofs.lemmas.Option.{same_Some}

-- ---- options

-- an option is one or the other
decided : {A : Type 0} (o : Option A) → (o ≡ None) ⊎ ((x : A) × (o ≡ Some x))
decided None = inl refl
decided (Some x) = inr (x, refl)

object_at : (name : List ℕ) (objects : ObjectMap) (bytes : List ℕ) → bytes_at name objects ≡ Some bytes → (at : ℕ) × (get objects name ≡ Some (bytes, at))
object_at name objects bytes h =
    elim (decided (get objects name)) as (λ _. (at : ℕ) × (get objects name ≡ Some (bytes, at))) [
      | inl none ↦ let nothing : bytes_at name objects ≡ None = ap (option_map (λ (object : List ℕ × ℕ). object.0)) none in absurd (cc)
      | inr found ↦
          let own : bytes_at name objects ≡ Some found.0.0 = ap (option_map (λ (object : List ℕ × ℕ). object.0)) found.1 in
          let same : found.0.0 ≡ bytes = cc in
          (found.0.1, found.1 ∙ (λ i. Some (same i, found.0.1)))
    ]

bytes_by : (name : List ℕ) (objects : ObjectMap) (bytes : List ℕ) (at : ℕ) → get objects name ≡ Some (bytes, at) → bytes_at name objects ≡ Some bytes
bytes_by name objects bytes at h = ap (option_map (λ (object : List ℕ × ℕ). object.0)) h

-- ---- contents

abbrev StagedBack : Contents → Contents → Type 0
StagedBack before after =
    (client : ℕ) (name : List ℕ) (since : ℕ) → staged_since client name after.staged ≡ Some since → staged_since client name before.staged ≡ Some since

module _ (v w : Contents) (back : StagedBack v w) (vw : IsPublishedFrom v w) where
  is_staged_back : (client : ℕ) (name : List ℕ) → IsSome (staged_since client name w.staged) → IsSome (staged_since client name v.staged)
  is_staged_back client name h = let since = some_of _ h in ap is_some (back client name since.0 since.1)

  was_staged_back : (name bytes : List ℕ) (at : ℕ) → WasStaged w name bytes at → WasStaged v name bytes at
  was_staged_back name bytes at h = record {
    client = h.client;
    since = h.since;
    is = back h.client name h.since h.is;
    bytes_are = sym (vw.staged h.client name (ap is_some h.is)) ∙ h.bytes_are;
    before = h.before;
  }

  object_back : (name bytes : List ℕ) (at : ℕ) → get w.objects name ≡ Some (bytes, at)
      → (get v.objects name ≡ None) ⊎ ((object : List ℕ × ℕ) × (get v.objects name ≡ Some object)) → IsCopy v name bytes
  object_back name bytes at is (inl none) =
      let staged = vw.new name bytes at none is in
      inr (record { client = staged.client; is = ap is_some staged.is; bytes_are = staged.bytes_are })
  object_back name bytes at is (inr found) =
      let left = vw.kept name found.0.0 found.0.1 found.1 in
      let same : found.0.0 ≡ bytes = ap (λ (object : List ℕ × ℕ). object.0) (same_Some (found.0.0, left.now) (bytes, at) (sym left.is ∙ is)) in
      inl (bytes_by name v.objects found.0.0 found.0.1 found.1 ∙ ap Some same)

  copy_back : (name bytes : List ℕ) → IsCopy w name bytes → IsCopy v name bytes
  copy_back name bytes (inl object) = let is = object_at name w.objects bytes object in object_back name bytes is.0 is.1 (decided _)
  copy_back name bytes (inr staged) =
      inr (record {
        client = staged.client;
        is = is_staged_back staged.client name staged.is;
        bytes_are = sym (vw.staged staged.client name staged.is) ∙ staged.bytes_are;
      })

  pub AreAlike-later : AreAlike v → AreAlike w
  AreAlike-later alike name first second one two = alike name first second (copy_back name first one) (copy_back name second two)

pub IsPublishedFrom-refl : (v : Contents) → IsPublishedFrom v v
IsPublishedFrom-refl v = record {
  kept = λ name bytes at is. record { now = at; is = is; since = inl refl };
  new = λ name bytes at none is. absurd (cc);
  staged = λ client name is. refl;
  gone = λ client name bytes was none there. let not_staged : is_some (staged_since client name v.staged) ≡ false = ap is_some none in absurd (cc);
}

module _ (v w x : Contents) (back_vw : StagedBack v w) (back_wx : StagedBack w x) (vw : IsPublishedFrom v w) (wx : IsPublishedFrom w x) where
  since_both : (name bytes : List ℕ) (at one two : ℕ) → (one ≡ at) ⊎ WasStaged v name bytes one → (two ≡ one) ⊎ WasStaged w name bytes two
      → (two ≡ at) ⊎ WasStaged v name bytes two
  since_both name bytes at one two (inl first) (inl second) = inl (second ∙ first)
  since_both name bytes at one two (inr staged) (inl second) = inr (subst (WasStaged v name bytes) (sym second) staged)
  since_both name bytes at one two first (inr staged) = inr (was_staged_back v w back_vw vw name bytes two staged)

  staged_either : (name bytes : List ℕ) (one two : ℕ) → WasStaged v name bytes one → (two ≡ one) ⊎ WasStaged w name bytes two → WasStaged v name bytes two
  staged_either name bytes one two staged (inl same) = subst (WasStaged v name bytes) (sym same) staged
  staged_either name bytes one two staged (inr again) = was_staged_back v w back_vw vw name bytes two again

  new_both : (name bytes : List ℕ) (at : ℕ) → get v.objects name ≡ None → get x.objects name ≡ Some (bytes, at)
      → (get w.objects name ≡ None) ⊎ ((object : List ℕ × ℕ) × (get w.objects name ≡ Some object)) → WasStaged v name bytes at
  new_both name bytes at none is (inl none_w) = was_staged_back v w back_vw vw name bytes at (wx.new name bytes at none_w is)
  new_both name bytes at none is (inr found) =
      let first = vw.new name found.0.0 found.0.1 none found.1 in
      let left = wx.kept name found.0.0 found.0.1 found.1 in
      let same = same_Some (found.0.0, left.now) (bytes, at) (sym left.is ∙ is) in
      subst (λ (object : List ℕ × ℕ). WasStaged v name object.0 object.1) same (staged_either name found.0.0 found.0.1 left.now first left.since)

  gone_both : (client : ℕ) (name bytes : List ℕ) → IsSome (staged_since client name v.staged) → staged_since client name x.staged ≡ None
      → staged_at client name v.blocks ≡ Some bytes → (staged_since client name w.staged ≡ None) ⊎ ((at : ℕ) × (staged_since client name w.staged ≡ Some at))
      → bytes_at name x.objects ≡ Some bytes
  gone_both client name bytes was none there (inl none_w) =
      let object = object_at name w.objects bytes (vw.gone client name bytes was none_w there) in
      let left = wx.kept name bytes object.0 object.1 in
      bytes_by name x.objects bytes left.now left.is
  gone_both client name bytes was none there (inr still) =
      let is : IsSome (staged_since client name w.staged) = ap is_some still.1 in
      wx.gone client name bytes is none (vw.staged client name is ∙ there)

  pub IsPublishedFrom-trans : IsPublishedFrom v x
  IsPublishedFrom-trans = record {
    kept = λ name bytes at is.
        let one = vw.kept name bytes at is in
        let two = wx.kept name bytes one.now one.is in
        record { now = two.now; is = two.is; since = since_both name bytes at one.now two.now one.since two.since };
    new = λ name bytes at none is. new_both name bytes at none is (decided _);
    staged = λ client name is. wx.staged client name is ∙ vw.staged client name (is_staged_back w x back_wx wx client name is);
    gone = λ client name bytes was none there. gone_both client name bytes was none there (decided _);
  }

-- ---- yards

pub Later-refl : (yard : YardValue) → Later yard yard
Later-refl yard = record {
  notes = [];
  log = sym (append-nil yard.log);
  by_workers = All-nil (λ note. 0 < note.by);
  setting = refl;
  last = refl;
  staged = λ client name since is. is;
  gone = λ client name was none. let not_staged : is_some (staged_since client name yard.staged) ≡ false = ap is_some none in absurd (cc);
  contents = λ objects blocks known_objects known_blocks alike. record {
    objects = objects;
    objects_are = known_objects;
    blocks = blocks;
    blocks_are = known_blocks;
    published = IsPublishedFrom-refl (contents_of objects blocks yard);
  };
}

publish_left : (setting : Setting) (notes more : List Note) (client : ℕ) (name : List ℕ) → HasPublish setting notes client name → HasPublish setting (notes ++ more) client name
publish_left setting notes more client name h = record {
  note = h.note;
  among = Contains-append_left notes more h.note h.among;
  what = h.what;
  who = h.who;
  block = h.block;
}

publish_right : (setting : Setting) (notes more : List Note) (client : ℕ) (name : List ℕ) → HasPublish setting more client name → HasPublish setting (notes ++ more) client name
publish_right setting notes more client name h = record {
  note = h.note;
  among = Contains-append_right notes more h.note h.among;
  what = h.what;
  who = h.who;
  block = h.block;
}

module _ (u v w : YardValue) (uv : Later u v) (vw : Later v w) where
  gone_later : (client : ℕ) (name : List ℕ) → IsSome (staged_since client name u.staged) → staged_since client name w.staged ≡ None
      → (staged_since client name v.staged ≡ None) ⊎ ((at : ℕ) × (staged_since client name v.staged ≡ Some at))
      → HasPublish u.setting (uv.notes ++ vw.notes) client name
  gone_later client name was none (inl none_v) = publish_left u.setting uv.notes vw.notes client name (uv.gone client name was none_v)
  gone_later client name was none (inr still) =
      publish_right u.setting uv.notes vw.notes client name
      (subst (λ (s : Setting). HasPublish s vw.notes client name) uv.setting (vw.gone client name (ap is_some still.1) none))

  contents_later : (objects : ObjectMap) (blocks : StagedMap) → u.depot.content ≡ Some objects → u.shelf.content ≡ Some blocks
      → AreAlike (contents_of objects blocks u) → ContentsLater (contents_of objects blocks u) w
  contents_later objects blocks known_objects known_blocks alike =
      let first = uv.contents objects blocks known_objects known_blocks alike in
      let between = contents_of first.objects first.blocks v in
      let second = vw.contents first.objects first.blocks first.objects_are first.blocks_are
      (AreAlike-later (contents_of objects blocks u) between uv.staged first.published alike) in
      record {
        objects = second.objects;
        objects_are = second.objects_are;
        blocks = second.blocks;
        blocks_are = second.blocks_are;
        published = IsPublishedFrom-trans (contents_of objects blocks u) between (contents_of second.objects second.blocks w) uv.staged vw.staged
            first.published second.published;
      }

  pub Later-trans : Later u w
  Later-trans = record {
    notes = uv.notes ++ vw.notes;
    log = vw.log ∙ ap (λ log. log ++ vw.notes) uv.log ∙ append_assoc u.log uv.notes vw.notes;
    by_workers = All-append (λ note. 0 < note.by) uv.notes vw.notes uv.by_workers vw.by_workers;
    setting = vw.setting ∙ uv.setting;
    last = vw.last ∙ uv.last;
    staged = λ client name since is. uv.staged client name since (vw.staged client name since is);
    gone = λ client name was none. gone_later client name was none (decided _);
    contents = contents_later;
  }

-- a later yard's staged blocks are on its shelf too
module _ (before after : YardValue) (objects : ObjectMap) (blocks : StagedMap) (known_objects : before.depot.content ≡ Some objects)
    (known_blocks : before.shelf.content ≡ Some blocks) (alike : AreAlike (contents_of objects blocks before)) (later : Later before after) where
  staged_before : (client : ℕ) (name : List ℕ) → IsSome (staged_since client name after.staged) → IsSome (staged_since client name before.staged)
  staged_before client name is = let since = some_of _ is in ap is_some (later.staged client name since.0 since.1)

  there_later : ContentsLater (contents_of objects blocks before) after → KeepsStaged before → (now : StagedMap) → after.shelf.content ≡ Some now
      → (client : ℕ) (name : List ℕ) → client ≤ LAST_CLIENT → IsSome (staged_since client name after.staged) → IsSome (staged_at client name now)
  there_later contents kept now known client name low is =
      let same = same_Some contents.blocks now (sym contents.blocks_are ∙ known) in
      ap (λ (m : StagedMap). is_some (staged_at client name m)) (sym same)
      ∙ ap is_some (contents.published.staged client name is)
      ∙ kept.there blocks known_blocks client name low (staged_before client name is)

  pub KeepsStaged-later : KeepsStaged before → KeepsStaged after
  KeepsStaged-later kept = record {
    names = λ client name low is.
        subst (λ (s : Setting). NamesBlock s name) (sym later.setting) (kept.names client name low (staged_before client name is));
    there = there_later (later.contents objects blocks known_objects known_blocks alike) kept;
  }
