use Rattle.std.proofs.Common.{◌≡◌, ℕ, ◌≤◌, ◌<◌, List, [], ◌∷◌, ◌++◌, length, true, false, ap, sym, ◌∙◌, arith}
use Rattle.std.specs.Prelude.{◌||◌}
use Rattle.std.proofs.lemmas.Result.{err_from_is_err_and}
use Rattle.jv_model.specs.declared.limits.TheConstants.{MAX_NAME, MAX_PATH}
use Rattle.jv_model.specs.promise.tree.Walk.{names_of, is_dot, is_dot_dot}
use Rattle.jv_rows.proofs.walks.EntryLaws.{entry_of_dots, directory_fails, entry_nowhere, entry_too_long, entry_found}
use Rattle.jv_rows.proofs.walking.walk_to_entry.Goals as goal

pub returns-then-is_dots : goal.returns-then-is_dots
returns-then-is_dots g c =
    let path = c.args.path.now in
    let name = c.in-Some.name in
    let short : length path ≤ MAX_PATH = omega (arith, c.if-len-gt-MAX_PATH.false, c.len.ensures.length) in
    let is : names_of path ≡ c.pop.new.self.items ++ name ∷ [] =
    sym (c.into_vec-names.ensures ∙ c.in_ok-split.ensures ∙ ap names_of c.as_slice.ensures) ∙ c.in-Some.ensures.items in
    let dots : (is_dot name || is_dot_dot name) ≡ true =
    sym (c.is_dots.ensures ∙ ap (λ (n : List ℕ). is_dot n || is_dot_dot n) c.as_slice-2.ensures) ∙ c.if-is_dots.true in
    entry_of_dots path c.pop.new.self.items name short is dots

pub returns-in_err-dir : goal.returns-in_err-dir
returns-in_err-dir g c =
    let path = c.args.path.now in
    let name = c.in-Some.name in
    let short : length path ≤ MAX_PATH = omega (arith, c.if-len-gt-MAX_PATH.false, c.len.ensures.length) in
    let is : names_of path ≡ c.from_vec.result ++ name ∷ [] =
    sym (c.into_vec-names.ensures ∙ c.in_ok-split.ensures ∙ ap names_of c.as_slice.ensures) ∙ c.in-Some.ensures.items ∙ ap (λ (names : List (List ℕ)). names ++ name ∷ []) (sym c.from_vec.ensures) in
    let good : (is_dot name || is_dot_dot name) ≡ false =
    sym (c.is_dots.ensures ∙ ap (λ (n : List ℕ). is_dot n || is_dot_dot n) c.as_slice-2.ensures) ∙ c.if-is_dots.false in
    let p = err_from_is_err_and c.from_residual-in_err-dir.result c.from_residual-in_err-dir.ensures.1 in
    rw (p.1, p.2) (directory_fails path c.from_vec.result name short is good c.in_err-dir.field-0.0 c.in_err-dir.ensures)

pub returns-then-dir-ne2 : goal.returns-then-dir-ne2
returns-then-dir-ne2 g c =
    let path = c.args.path.now in
    let name = c.in-Some.name in
    let short : length path ≤ MAX_PATH = omega (arith, c.if-len-gt-MAX_PATH.false, c.len.ensures.length) in
    let is : names_of path ≡ c.from_vec.result ++ name ∷ [] =
    sym (c.into_vec-names.ensures ∙ c.in_ok-split.ensures ∙ ap names_of c.as_slice.ensures) ∙ c.in-Some.ensures.items ∙ ap (λ (names : List (List ℕ)). names ++ name ∷ []) (sym c.from_vec.ensures) in
    let good : (is_dot name || is_dot_dot name) ≡ false =
    sym (c.is_dots.ensures ∙ ap (λ (n : List ℕ). is_dot n || is_dot_dot n) c.as_slice-2.ensures) ∙ c.if-is_dots.false in
    entry_nowhere path c.from_vec.result name short is good c.in_ok-dir.dir c.in_ok-dir.ensures c.if-dir-ne2.true

pub returns-then-len-gt-MAX_NAME : goal.returns-then-len-gt-MAX_NAME
returns-then-len-gt-MAX_NAME g c =
    let path = c.args.path.now in
    let name = c.in-Some.name in
    let short : length path ≤ MAX_PATH = omega (arith, c.if-len-gt-MAX_PATH.false, c.len.ensures.length) in
    let is : names_of path ≡ c.from_vec.result ++ name ∷ [] =
    sym (c.into_vec-names.ensures ∙ c.in_ok-split.ensures ∙ ap names_of c.as_slice.ensures) ∙ c.in-Some.ensures.items ∙ ap (λ (names : List (List ℕ)). names ++ name ∷ []) (sym c.from_vec.ensures) in
    let good : (is_dot name || is_dot_dot name) ≡ false =
    sym (c.is_dots.ensures ∙ ap (λ (n : List ℕ). is_dot n || is_dot_dot n) c.as_slice-2.ensures) ∙ c.if-is_dots.false in
    let long : MAX_NAME < length name = omega (arith, c.if-len-gt-MAX_NAME.true, c.len-2.ensures.length) in
    entry_too_long path c.from_vec.result name short is good c.in_ok-dir.dir c.in_ok-dir.ensures c.if-dir-ne2.false long

pub returns : goal.returns
returns g c =
    let path = c.args.path.now in
    let name = c.in-Some.name in
    let short : length path ≤ MAX_PATH = omega (arith, c.if-len-gt-MAX_PATH.false, c.len.ensures.length) in
    let is : names_of path ≡ c.from_vec.result ++ name ∷ [] =
    sym (c.into_vec-names.ensures ∙ c.in_ok-split.ensures ∙ ap names_of c.as_slice.ensures) ∙ c.in-Some.ensures.items ∙ ap (λ (names : List (List ℕ)). names ++ name ∷ []) (sym c.from_vec.ensures) in
    let good : (is_dot name || is_dot_dot name) ≡ false =
    sym (c.is_dots.ensures ∙ ap (λ (n : List ℕ). is_dot n || is_dot_dot n) c.as_slice-2.ensures) ∙ c.if-is_dots.false in
    let fits : length name ≤ MAX_NAME = omega (arith, c.if-len-gt-MAX_NAME.false, c.len-2.ensures.length) in
    entry_found path c.from_vec.result name short is good c.in_ok-dir.dir c.in_ok-dir.ensures c.if-dir-ne2.false fits
