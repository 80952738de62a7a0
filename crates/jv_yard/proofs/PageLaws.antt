-- Pages of a client's names: which blocks they add, and that a start which has read all of them has found all.
use Rattle.std.proofs.Common.{◌≡◌, ◌⊎◌, ℕ, zero, suc, ◌+◌, ◌-◌, ◌<◌, ◌≤◌, Bool, true, false, not, cond, ◌&&◌, ◌==◌, T, List, [], ◌∷◌, ◌++◌, length, map, filter, take, Option, None, Some, IsSome, is_some, IfSome, unwrap_or, slice_get, nat_lt, if◌then◌else◌, refl, sym, ap, subst, ◌∙◌, inl, inr, eq-eqb, eqb-true, arith}
use Rattle.std.specs.List.{Contains}
use Rattle.std.proofs.lemmas.List.Elements.{Contains-push, Contains-push_cases, Contains-append_left, Contains-append_right, Contains-append_cases}
use Rattle.std.proofs.lemmas.Option.{slice_get_within, slice_get-get_or, get_or_from_slice_get}
use Rattle.std.proofs.lemmas.Bool.{ltb-true, ltb-false, and_parts}
use Rattle.std.specs.declared.cmp.Ordering.TheVariants.{Less, Equal}
use Rattle.std.specs.Ordering.{eq_by_cmp, is_lt, nat_cmp, ordering_then}
use Rattle.std.specs.Cmp.{eq_by_cmp_equiv, nat_cmp_is}
use Rattle.std.specs.FinMap.Entries.{find, below_all, is_sorted}
use Rattle.std.specs.Cmp.Lexicographic.{slice_cmp}
use Rattle.jv_model.specs.declared.setting.Setting.{Setting}
use Rattle.jv_model.specs.promise.FiniteMap.{text_key, empty_map, get, insert}
use Rattle.jv_model.proofs.FiniteMapLaws.{get-empty_map, get-insert}
use Rattle.jv_model.proofs.TestLaws.{tie_is, less_is, first_of_both, second_of_both, some_of, if_some-by, of_known}
use Rattle.jv_outside.specs.promise.Holding.{Holding}
use Rattle.jv_outside.specs.promise.Blocks.{StagedMap, staged_cmp, staged_key, staged_at}
use Rattle.jv_outside.specs.Blocks.{names_after}
use Rattle.jv_outside.specs.Objects.{is_later}
use Rattle.jv_yard.specs.declared.finding.TheConstants.{PAGE}
use Rattle.jv_yard.specs.Pages.{AddsNames, next_after}
use Rattle.jv_yard.specs.promise.Starting.{IsFound}
use Rattle.jv_yard.specs.promise.Staging.{ClientStaging}
use Rattle.jv_yard.specs.Staging.{by_client}
use Rattle.jv_yard.specs.promise.YardValue.{NamesBlock}
use Rattle.jv_model.proofs.ListLaws.{get_front, get_end}

-- ---- what a page adds

no_name : (name : List ℕ) → Contains [] name → ⊥
no_name name h = absurd (omega (arith, h.1))

-- what a map has at a name after another or the same name was put
put_at : (m : ClientStaging) (key name : List ℕ) (at : ℕ) (tied : Bool) → eq_by_cmp text_key.cmp name key ≡ tied
    → (get (insert m key at) name ≡ get m name) ⊎ ((name ≡ key) × (get (insert m key at) name ≡ Some at))
put_at m key name at true tied = inr (text_key.same name key (tie_is _ tied), get-insert m key at name ∙ ap (λ b. cond b (Some at) (get m name)) tied)
put_at m key name at false tied = inl (get-insert m key at name ∙ ap (λ b. cond b (Some at) (get m name)) tied)

pub put-at : (m : ClientStaging) (key name : List ℕ) (at : ℕ)
    → (get (insert m key at) name ≡ get m name) ⊎ ((name ≡ key) × (get (insert m key at) name ≡ Some at))
put-at m key name at = put_at m key name at _ refl

pub put-self : (m : ClientStaging) (key : List ℕ) (at : ℕ) → get (insert m key at) key ≡ Some at
put-self m key at = get-insert m key at key ∙ ap (λ b. cond b (Some at) (get m key)) ((eq_by_cmp_equiv text_key.total).refl key)

module _ (setting : Setting) (names : List (List ℕ)) (name : List ℕ) (m before after : ClientStaging) (adds : AddsNames setting names m before) where
  -- one more name, which is a block's
  module _ (named : NamesBlock setting name) (step : after ≡ insert before name 0) where
    added_one : (q : List ℕ) → Contains (names ++ name ∷ []) q → NamesBlock setting q
        → (get (insert before name 0) q ≡ get before q) ⊎ ((q ≡ name) × (get (insert before name 0) q ≡ Some 0))
        → Contains names q ⊎ (name ≡ q) → get (insert before name 0) q ≡ Some 0
    added_one q among block (inr put) place = put.1
    added_one q among block (inl same) (inl earlier) = same ∙ adds.added q earlier block
    added_one q among block (inl same) (inr is) = subst (λ x. get (insert before name 0) x ≡ Some 0) is (put-self before name 0)

    others_one : (q : List ℕ) → (get (insert before name 0) q ≡ get before q) ⊎ ((q ≡ name) × (get (insert before name 0) q ≡ Some 0))
        → (get before q ≡ get m q) ⊎ (Contains names q × NamesBlock setting q × (get before q ≡ Some 0))
        → (get after q ≡ get m q) ⊎ (Contains (names ++ name ∷ []) q × NamesBlock setting q × (get after q ≡ Some 0))
    others_one q (inl same) (inl old) = inl (ap (λ n. get n q) step ∙ same ∙ old)
    others_one q (inl same) (inr new) = inr (Contains-append_left names (name ∷ []) q new.0, new.1, ap (λ n. get n q) step ∙ same ∙ new.2)
    others_one q (inr put) other =
        inr (subst (Contains (names ++ name ∷ [])) (sym put.0) (Contains-push names name), subst (NamesBlock setting) (sym put.0) named, ap (λ n. get n q) step ∙ put.1)

    pub adds-one : AddsNames setting (names ++ name ∷ []) m after
    adds-one = record {
      added = λ q among block. ap (λ n. get n q) step ∙ added_one q among block (put-at before name q 0) (Contains-push_cases names name q among);
      others = λ q. others_one q (put-at before name q 0) (adds.others q);
    }

  -- one more name, which isn't a block's
  module _ (other : NamesBlock setting name → ⊥) where
    skipped_one : (q : List ℕ) → NamesBlock setting q → Contains names q ⊎ (name ≡ q) → get before q ≡ Some 0
    skipped_one q block (inl earlier) = adds.added q earlier block
    skipped_one q block (inr is) = absurd (other (subst (NamesBlock setting) (sym is) block))

    others_skipped : (q : List ℕ) → (get before q ≡ get m q) ⊎ (Contains names q × NamesBlock setting q × (get before q ≡ Some 0))
        → (get before q ≡ get m q) ⊎ (Contains (names ++ name ∷ []) q × NamesBlock setting q × (get before q ≡ Some 0))
    others_skipped q (inl old) = inl old
    others_skipped q (inr new) = inr (Contains-append_left names (name ∷ []) q new.0, new.1, new.2)

    pub adds-other : AddsNames setting (names ++ name ∷ []) m before
    adds-other = record {
      added = λ q among block. skipped_one q block (Contains-push_cases names name q among);
      others = λ q. others_skipped q (adds.others q);
    }

-- ---- which names a page has

cons_cases : (x : List ℕ) (xs : List (List ℕ)) (z : List ℕ) → Contains (x ∷ xs) z → (x ≡ z) ⊎ Contains xs z
cons_cases x xs z among =
    elim (Contains-append_cases (x ∷ []) xs z among) as (λ _. (x ≡ z) ⊎ Contains xs z) [
      | inl one ↦ elim (Contains-push_cases [] x z one) as (λ _. (x ≡ z) ⊎ Contains xs z) [ inl none ↦ absurd (no_name z none) | inr is ↦ inl is ]
      | inr rest ↦ inr rest
    ]

here : (x : List ℕ) (xs : List (List ℕ)) → Contains (x ∷ xs) x
here x xs = Contains-append_left (x ∷ []) xs x (Contains-push [] x)

there : (x : List ℕ) (xs : List (List ℕ)) (z : List ℕ) → Contains xs z → Contains (x ∷ xs) z
there x xs z among = Contains-append_right (x ∷ []) xs z among

none_taken : (n : ℕ) → take {A = List ℕ} n [] ≡ []
none_taken zero = refl
none_taken (suc n) = refl

some_either : {A : Type 0} (b : Bool) (v : A) (rest : Option A) → IsSome rest → IsSome (cond b (Some v) rest)
some_either true v rest h = refl
some_either false v rest h = h

-- a page is short, or a name isn't after one of it
abbrev pub Reaches : List (List ℕ) → ℕ → List ℕ → Type 0
Reaches page n name = (length page < n) ⊎ ((z : List ℕ) × Contains page z × (is_lt (slice_cmp nat_cmp z name) ≡ false))

abbrev Entry : Type 0
Entry = (ℕ × List ℕ) × List ℕ

module _ (client : ℕ) (last : Option (List ℕ)) where
  abbrev passes : Entry → Bool
  passes e = (e.0.0 == client) && is_later last e.0.1

  abbrev passing : List Entry → List (List ℕ)
  passing es = map (λ e. e.0.1) (filter passes es)

  module _ (name : List ℕ) where
    abbrev key : ℕ × List ℕ
    key = (client, name)

    -- a key that is found behind another one is after it
    found_above : (k : ℕ × List ℕ) (es : List Entry) (x : List ℕ) → T (below_all staged_cmp k es) → find staged_cmp key es ≡ Some x → staged_cmp k key ≡ Less
    found_above k [] x below found = absurd (cc)
    found_above k (e ∷ es) x below found =
        elim (eq_by_cmp staged_cmp key e.0) as (λ b. eq_by_cmp staged_cmp key e.0 ≡ b → cond b (Some e.1) (find staged_cmp key es) ≡ Some x → staged_cmp k key ≡ Less) [
          | true ↦ λ tied _. subst (λ q. staged_cmp k q ≡ Less) (sym (staged_key.same key e.0 (tie_is _ tied))) (less_is _ (first_of_both _ _ below))
          | false ↦ λ tied rest. found_above k es x (second_of_both _ _ below) rest
        ] refl found

    -- among the names of one client keys go by their names
    names_rise : (k : ℕ × List ℕ) → (k.0 == client) ≡ true → staged_cmp k key ≡ Less → is_lt (slice_cmp nat_cmp k.1 name) ≡ true
    names_rise k is less =
        let tie : Equal ≡ nat_cmp k.0 client = nat_cmp_is k.0 client Equal (eqb-true k.0 client is) in
        ap is_lt (ap (λ o. ordering_then o (slice_cmp nat_cmp k.1 name)) tie ∙ less)

    nothing_reaches : (n : ℕ) → n ≡ 0 → Reaches (take n []) n name → ⊥
    nothing_reaches n none (inl short) = absurd (omega arith)
    nothing_reaches n none (inr met) = no_name met.0 (subst (λ page. Contains page met.0) (none_taken n) met.1)

    page_has_at : (e : Entry) (es : List Entry) (n : ℕ) (x : List ℕ) (tied passed : Bool) → eq_by_cmp staged_cmp key e.0 ≡ tied → passes e ≡ passed
        → is_later last name ≡ true → T (below_all staged_cmp e.0 es) → cond tied (Some e.1) (find staged_cmp key es) ≡ Some x
        → ((m : ℕ) → find staged_cmp key es ≡ Some x → Reaches (take m (passing es)) m name → Contains (take m (passing es)) name)
        → Reaches (take n (map (λ e. e.0.1) (cond passed (e ∷ filter passes es) (filter passes es)))) n name
        → Contains (take n (map (λ e. e.0.1) (cond passed (e ∷ filter passes es) (filter passes es)))) name
    page_has_at e es n x false false tied passed later below found rest reaches = rest n found reaches
    page_has_at e es n x true false tied passed later below found rest reaches =
        let is : key ≡ e.0 = staged_key.same key e.0 (tie_is _ tied) in
        let own : (client == client) ≡ true = eq-eqb client client refl in
        let passed_key : ((client == client) && is_later last name) ≡ true = ap (λ b. b && is_later last name) own ∙ later in
        let passed_e : passes e ≡ true = sym (ap (λ (q : ℕ × List ℕ). (q.0 == client) && is_later last q.1) is) ∙ passed_key in
        absurd (cc)
    page_has_at e es zero x tied true is passed later below found rest (inl short) = absurd (omega arith)
    page_has_at e es zero x tied true is passed later below found rest (inr met) = absurd (no_name met.0 met.1)
    page_has_at e es (suc n) x true true tied passed later below found rest reaches =
        let is : key ≡ e.0 = staged_key.same key e.0 (tie_is _ tied) in
        subst (λ (q : List ℕ). Contains (e.0.1 ∷ take n (passing es)) q) (sym (ap (λ (q : ℕ × List ℕ). q.1) is)) (here e.0.1 (take n (passing es)))
    page_has_at e es (suc n) x false true tied passed later below found rest (inl short) =
        let shorter : length (take n (passing es)) < n = omega (arith, short) in
        there _ _ _ (rest n found (inl shorter))
    page_has_at e es (suc n) x false true tied passed later below found rest (inr met) =
        let of_client = (and_parts _ _ passed).0 in
        elim (cons_cases e.0.1 (take n (passing es)) met.0 met.1) as (λ _. Contains (e.0.1 ∷ take n (passing es)) name) [
          | inl first ↦
              let rises = names_rise e.0 of_client (found_above e.0 es x below found) in
              let met_it : is_lt (slice_cmp nat_cmp e.0.1 name) ≡ false = ap (λ z. is_lt (slice_cmp nat_cmp z name)) first ∙ met.2 in
              absurd (cc)
          | inr among ↦ there _ _ _ (rest n found (inr (met.0, among, met.2)))
        ]

    page_has : (es : List Entry) (n : ℕ) (x : List ℕ) → T (is_sorted staged_cmp es) → is_later last name ≡ true → find staged_cmp key es ≡ Some x
        → Reaches (take n (passing es)) n name → Contains (take n (passing es)) name
    page_has [] n x sorted later found reaches = absurd (cc)
    page_has (e ∷ es) n x sorted later found reaches =
        page_has_at e es n x _ _ refl refl later (first_of_both _ _ sorted) found
        (λ m found_in reaches_in. page_has es m x (second_of_both _ _ sorted) later found_in reaches_in) reaches

    page_only_at : (e : Entry) (es : List Entry) (n : ℕ) (passed : Bool) → passes e ≡ passed
        → ((m : ℕ) → Contains (take m (passing es)) name → IsSome (find staged_cmp key es))
        → Contains (take n (map (λ e. e.0.1) (cond passed (e ∷ filter passes es) (filter passes es)))) name
        → IsSome (cond (eq_by_cmp staged_cmp key e.0) (Some e.1) (find staged_cmp key es))
    page_only_at e es n false passed rest among = some_either _ _ _ (rest n among)
    page_only_at e es zero true passed rest among = absurd (no_name name among)
    page_only_at e es (suc n) true passed rest among =
        elim (cons_cases e.0.1 (take n (passing es)) name among) as (λ _. IsSome (cond (eq_by_cmp staged_cmp key e.0) (Some e.1) (find staged_cmp key es))) [
          | inl is ↦
              let of_client : e.0.0 ≡ client = eqb-true e.0.0 client (and_parts _ _ passed).0 in
              let own : e.0 ≡ key = λ i. (of_client i, is i) in
              let tied : eq_by_cmp staged_cmp key e.0 ≡ true = ap (eq_by_cmp staged_cmp key) own ∙ (eq_by_cmp_equiv staged_key.total).refl key in
              ap (λ b. is_some (cond b (Some e.1) (find staged_cmp key es))) tied
          | inr later ↦ some_either _ _ _ (rest n later)
        ]

    page_only : (es : List Entry) (n : ℕ) → Contains (take n (passing es)) name → IsSome (find staged_cmp key es)
    page_only [] n among = absurd (no_name name (subst (λ page. Contains page name) (none_taken n) among))
    page_only (e ∷ es) n among = page_only_at e es n _ refl (λ m among_in. page_only es m among_in) among

module _ (client : ℕ) (last : Option (List ℕ)) (name : List ℕ) (n : ℕ) (blocks : StagedMap) where
  -- a name on the shelf after the last one is in the page that comes next, if that is short or has a name that isn't before it
  pub name-in_page : (x : List ℕ) → staged_at client name blocks ≡ Some x → is_later last name ≡ true → Reaches (names_after client last n blocks) n name
      → Contains (names_after client last n blocks) name
  unfolding get
  name-in_page x found later reaches = page_has client last name blocks.list n x blocks.sorted later found reaches

  -- a page has names alone that the client has on the shelf
  pub name-from_page : Contains (names_after client last n blocks) name → IsSome (staged_at client name blocks)
  unfolding get
  name-from_page among = page_only client last name blocks.list n among

-- ---- reading all pages

-- the blocks found by the pages up to a name, or none of them yet
pub record IsFoundSoFar (setting : Setting) (content : Option StagedMap) (client : ℕ) (last : Option (List ℕ)) (found : ClientStaging) : Type 0 where
  pub first : (name : List ℕ) (at : ℕ) → get found name ≡ Some at → at ≡ 0
  pub names : (name : List ℕ) → IsSome (get found name) → NamesBlock setting name
  pub only : (blocks : StagedMap) → content ≡ Some blocks → (name : List ℕ) → IsSome (get found name) → IsSome (staged_at client name blocks)
  pub all : (blocks : StagedMap) → content ≡ Some blocks → (name : List ℕ) → NamesBlock setting name → IsSome (staged_at client name blocks)
      → is_later last name ≡ false → get found name ≡ Some 0

nothing_at : (name : List ℕ) (P : Type 0) → IsSome (get (empty_map {X = ℕ} {order = text_key}) name) → P
nothing_at name P h = let none = get-empty_map {X = ℕ} text_key name in absurd (cc)

pub found-nothing : (setting : Setting) (content : Option StagedMap) (client : ℕ) → IsFoundSoFar setting content client None empty_map
found-nothing setting content client = record {
  first = λ name at h. let none = get-empty_map {X = ℕ} text_key name in absurd (cc);
  names = λ name h. nothing_at name _ h;
  only = λ blocks is name h. nothing_at name _ h;
  all = λ blocks is name named there earlier. absurd (cc);
}

last_in : (names : List (List ℕ)) (k : ℕ) (last : List ℕ) → slice_get names k ≡ Some last → Contains names last
last_in names k last is = (k, slice_get_within names k last is, get_or_from_slice_get names k last last is)

within_ends : (names : List (List ℕ)) (k : ℕ) → k < length names → slice_get names k ≡ None → ⊥
within_ends names k below none = let some = slice_get-get_or names k [] below in absurd (cc)

-- a page without a next one is short
ends_at : (names : List (List ℕ)) (short : Bool) → nat_lt (length names) PAGE ≡ short → (if short then None else slice_get names (length names - 1)) ≡ None → length names < PAGE
ends_at names true is none = ltb-true _ _ is
ends_at names false is none =
    let full : PAGE ≤ length names = ltb-false _ _ is in
    absurd (within_ends names (length names - 1) (omega arith) none)

goes_on_at : (names : List (List ℕ)) (last : List ℕ) (short : Bool) → (if short then None else slice_get names (length names - 1)) ≡ Some last → Contains names last
goes_on_at names last true is = absurd (cc)
goes_on_at names last false is = last_in names _ last is

module _ (setting : Setting) (content : Option StagedMap) (client : ℕ) (last : Option (List ℕ)) (names : List (List ℕ)) (found after : ClientStaging)
    (page : (blocks : StagedMap) → content ≡ Some blocks → names ≡ names_after client last PAGE blocks)
    (so_far : IsFoundSoFar setting content client last found) (adds : AddsNames setting names found after) where
  first_by : (name : List ℕ) (at : ℕ) → get after name ≡ Some at → (get after name ≡ get found name) ⊎ (Contains names name × NamesBlock setting name × (get after name ≡ Some 0)) → at ≡ 0
  first_by name at is (inl old) = so_far.first name at (sym old ∙ is)
  first_by name at is (inr new) = let zero_it = new.2 in cc

  names_by : (name : List ℕ) → IsSome (get after name) → (get after name ≡ get found name) ⊎ (Contains names name × NamesBlock setting name × (get after name ≡ Some 0)) → NamesBlock setting name
  names_by name is (inl old) = so_far.names name (ap is_some (sym old) ∙ is)
  names_by name is (inr new) = new.1

  only_by : (blocks : StagedMap) → content ≡ Some blocks → (name : List ℕ) → IsSome (get after name)
      → (get after name ≡ get found name) ⊎ (Contains names name × NamesBlock setting name × (get after name ≡ Some 0)) → IsSome (staged_at client name blocks)
  only_by blocks known name is (inl old) = so_far.only blocks known name (ap is_some (sym old) ∙ is)
  only_by blocks known name is (inr new) = name-from_page client last name PAGE blocks (subst (λ some. Contains some name) (page blocks known) new.0)

  kept_by : (name : List ℕ) → get found name ≡ Some 0 → (get after name ≡ get found name) ⊎ (Contains names name × NamesBlock setting name × (get after name ≡ Some 0)) → get after name ≡ Some 0
  kept_by name is (inl old) = old ∙ is
  kept_by name is (inr new) = new.2

  -- what is after the last name is in the page, if that reaches it
  all_by : (blocks : StagedMap) → content ≡ Some blocks → (name : List ℕ) → NamesBlock setting name → IsSome (staged_at client name blocks)
      → Reaches names PAGE name → (later : Bool) → is_later last name ≡ later → get after name ≡ Some 0
  all_by blocks known name named there reaches false later = kept_by name (so_far.all blocks known name named there later) (adds.others name)
  all_by blocks known name named there reaches true later =
      let bytes = some_of (staged_at client name blocks) there in
      let listed = page blocks known in
      let among = name-in_page client last name PAGE blocks bytes.0 bytes.1 later (subst (λ some. Reaches some PAGE name) listed reaches) in
      adds.added name (subst (λ some. Contains some name) (sym listed) among) named

  pub found-page : (next : List ℕ) → next_after names ≡ Some next → IsFoundSoFar setting content client (Some next) after
  found-page next is = record {
    first = λ name at h. first_by name at h (adds.others name);
    names = λ name h. names_by name h (adds.others name);
    only = λ blocks known name h. only_by blocks known name h (adds.others name);
    all = λ blocks known name named there earlier.
        all_by blocks known name named there (inr (next, goes_on_at names next (nat_lt (length names) PAGE) is, earlier)) _ refl;
  }

  pub found-all : next_after names ≡ None → IsFound setting content client after
  found-all is = record {
    first = λ name at h. first_by name at h (adds.others name);
    names = λ name h. names_by name h (adds.others name);
    only = if_some-by _ content (λ blocks known name h. only_by blocks known name h (adds.others name));
    all = if_some-by _ content (λ blocks known name named there. all_by blocks known name named there (inl (ends_at names _ refl is)) _ refl);
  }

module _ (setting : Setting) (start before : Holding StagedMap) (client : ℕ) (last asked : Option (List ℕ)) (names : List (List ℕ)) (found after : ClientStaging)
    (same : before ≡ start) (from : asked ≡ last) (listed : IfSome before.content (λ blocks. names ≡ names_after client asked PAGE blocks))
    (so_far : IsFoundSoFar setting start.content client last found) (adds : AddsNames setting names found after) where
  page_is : (blocks : StagedMap) → start.content ≡ Some blocks → names ≡ names_after client last PAGE blocks
  page_is blocks known =
      of_known (λ some. names ≡ names_after client asked PAGE some) before.content blocks (ap (λ (h : Holding StagedMap). h.content) same ∙ known) listed
      ∙ ap (λ name. names_after client name PAGE blocks) from

  -- a page that isn't the last one
  pub page-turned : (next : Option (List ℕ)) → next ≡ next_after names → (end : Bool) → is_some next ≡ not end → end ≡ false
      → IsFoundSoFar setting start.content client next after
  page-turned None is true says more = absurd (cc)
  page-turned None is false says more = absurd (cc)
  page-turned (Some next) is end says more = found-page setting start.content client last names found after page_is so_far adds next (sym is)

  -- the last page
  pub page-ended : (next : Option (List ℕ)) → next ≡ next_after names → (end : Bool) → is_some next ≡ not end → end ≡ true
      → IsFound setting start.content client after
  page-ended None is end says ended = found-all setting start.content client last names found after page_is so_far adds (sym is)
  page-ended (Some next) is true says ended = absurd (cc)
  page-ended (Some next) is false says ended = absurd (cc)

-- ---- one client after another

split : (n k : ℕ) → n < k + 1 → (n < k) ⊎ (n ≡ k)
split n k below = elim (nat_lt n k) as (λ b. nat_lt n k ≡ b → (n < k) ⊎ (n ≡ k)) [
  | true ↦ λ is. inl (ltb-true _ _ is)
  | false ↦ λ is. let other : k ≤ n = ltb-false _ _ is in inr (omega arith)
] refl

module _ (setting : Setting) (content : Option StagedMap) (clients : List ClientStaging) (one : ClientStaging) where
  pub clients-more : (k : ℕ) → length clients ≡ k → IsFound setting content k one
      → ((client : ℕ) → client < k → IsFound setting content client (by_client clients client))
      → (client : ℕ) → client < k + 1 → IsFound setting content client (by_client (clients ++ one ∷ []) client)
  clients-more k long found before client below =
      elim (split client k below) as (λ _. IsFound setting content client (by_client (clients ++ one ∷ []) client)) [
        | inl less ↦
            let inside : client < length clients = omega arith in
            let same = ap (λ found_at. unwrap_or found_at (empty_map {order = text_key})) (get_front clients (one ∷ []) client inside) in
            subst (IsFound setting content client) (sym same) (before client less)
        | inr is ↦
            let place : client ≡ length clients = is ∙ sym long in
            let same = ap (λ n. by_client (clients ++ one ∷ []) n) place ∙ ap (λ found_at. unwrap_or found_at (empty_map {order = text_key})) (get_end clients one) in
            subst (IsFound setting content client) (sym same) (subst (λ n. IsFound setting content n one) (sym is) found)
      ]
