-- The grammar of a window's list is exact.
use Rattle.std.proofs.Common.{◌≡◌, ℕ, zero, suc, ◌*◌, ◌/◌, List, [], ◌∷◌, ◌++◌, length, Option, Some, refl, sym, ap, subst, ◌∙◌, append_assoc, arith, lit<}
use Rattle.std.specs.Prelude.{IsTrue}
use Rattle.std.specs.List.{flat_map}
use Rattle.std.proofs.lemmas.List.{append-nil, length-append}
use Rattle.std.proofs.Math.Nat.{mul-div_cancel}
use Rattle.std.proofs.lemmas.List.Concat.{flat_map-cons}
use Rattle.jv_model.specs.declared.tables.TheConstants.{RECORD_LENGTH}
use Rattle.jv_model.specs.declared.slice.Rec.{Rec}
use Rattle.jv_model.specs.promise.Optional.{◌>>=◌}
use Rattle.jv_model.specs.promise.rows.RowFields.{whole}
use Rattle.jv_model.specs.promise.rows.RowGrammar.{record_bytes, record_at, records_at, is_list, list_bytes, list_of}
use Rattle.jv_model.specs.Lists.{AreBytes}
use Rattle.jv_rows.specs.RoundTrips.{RecordWidths, ListWidths, IsExact}
use Rattle.jv_rows.proofs.grammars.FieldLaws.{AreBytes-back, bind_some, IsField, word_field, long_field}
use Rattle.jv_rows.proofs.grammars.ReaderLaws.{IsReader, field_then, finish_front, some_is, whole_is, lets_through}

-- a reader of a value with the bytes after it is a field
field_of_reader : {A : Type 0} {read : List ℕ → Option (A × List ℕ)} {spelled : A × List ℕ → List ℕ} {Fits Known : A × List ℕ → Type 0} (bytes_of : A → List ℕ) (HasWidths : A → Type 0) → IsReader read spelled Fits Known
    → ((x : A × List ℕ) → spelled x ≡ bytes_of x.0 ++ x.1) → ((x : A × List ℕ) → Known x) → ((x : A × List ℕ) → Fits x → HasWidths x.0) → ((x : A × List ℕ) → HasWidths x.0 → Fits x)
    → IsField read bytes_of HasWidths
field_of_reader {A} {read} bytes_of HasWidths reader spelling known split join =
    let parted : (bytes : List ℕ) (x : A × List ℕ) → AreBytes bytes → read bytes ≡ Some x → bytes ≡ bytes_of x.0 ++ x.1 = λ bytes x h e. reader.same bytes x h e ∙ spelling x in
    record {
      parts = parted;
      fits = λ bytes x h e. split x (reader.fits bytes x h e);
      rest = λ bytes x h e. AreBytes-back (bytes_of x.0) x.1 (subst AreBytes (parted bytes x h e) h);
      again = λ x rest w. ap read (sym (spelling (x, rest))) ∙ reader.again (x, rest) (join (x, rest) w) (known (x, rest));
    }

record_field : IsField record_at record_bytes RecordWidths
unfolding record_at record_bytes
record_field =
    field_of_reader {read = record_at} {Known = λ _. Unit {0}} record_bytes RecordWidths (
    field_then word_field (λ x. x.0.pos) _ _ _ _ λ pos.
    field_then long_field (λ x. x.0.id) _ _ _ _ λ id.
    field_then word_field (λ x. x.0.size) _ _ _ _ λ size.
    field_then word_field (λ x. x.0.off) _ _ _ _ λ off.
    field_then word_field (λ x. x.0.len) _ _ _ _ λ len.
    finish_front (record { pos = pos; id = id; size = size; off = off; len = len }) _ (λ rest. (((((tt, refl), refl), refl), refl), refl)) (λ y k. λ i. record { pos = k.0.0.0.0.1 i; id = k.0.0.0.1 i; size = k.0.0.1 i; off = k.0.1 i; len = k.1 i }))
    (λ x. refl) (λ x. tt)
    (λ x f. record { pos = f.0; id = f.1.0; size = f.1.1.0; off = f.1.1.1.0; len = f.1.1.1.1.0 })
    (λ x w. (w.pos, (w.id, (w.size, (w.off, (w.len, tt))))))

record_length : (r : Rec) → length (record_bytes r) ≡ RECORD_LENGTH
unfolding record_bytes
record_length r = refl

list_length : (rs : List Rec) → length (flat_map record_bytes rs) ≡ length rs * RECORD_LENGTH
list_length [] = refl
list_length (r ∷ rs) = rw flat_map-cons (omega (arith, length-append (record_bytes r) (flat_map record_bytes rs), record_length r, list_length rs))

-- what a reader of `n` records took
record TakesRecords (n : ℕ) (bytes : List ℕ) (x : List Rec × List ℕ) : Type 0 where
  parts : bytes ≡ flat_map record_bytes x.0 ++ x.1
  widths : ListWidths x.0

records_take : (n : ℕ) (bytes : List ℕ) (x : List Rec × List ℕ) → AreBytes bytes → records_at n bytes ≡ Some x → TakesRecords n bytes x
unfolding records_at
records_take zero bytes x h e = subst (TakesRecords zero bytes) (some_is ([], bytes) x e) (record { parts = refl; widths = tt })
records_take (suc n) bytes x h e =
    let a = bind_some (record_at bytes) (λ first. records_at n first.1 >>= λ others. Some (first.0 ∷ others.0, others.1)) x e in
    let b = bind_some (records_at n a.0.1) (λ others. Some (a.0.0 ∷ others.0, others.1)) x a.2 in
    let rest = records_take n a.0.1 b.0 (record_field.rest bytes a.0 h a.1) b.1 in
    let parted : bytes ≡ flat_map record_bytes (a.0.0 ∷ b.0.0) ++ b.0.1 =
    record_field.parts bytes a.0 h a.1 ∙ ap (λ (t : List ℕ). record_bytes a.0.0 ++ t) rest.parts ∙ sym (append_assoc (record_bytes a.0.0) (flat_map record_bytes b.0.0) b.0.1) ∙ ap (λ (t : List ℕ). t ++ b.0.1) (sym (flat_map-cons record_bytes a.0.0 b.0.0)) in
    subst (TakesRecords (suc n) bytes) (some_is (a.0.0 ∷ b.0.0, b.0.1) x b.2) (record { parts = parted; widths = (record_field.fits bytes a.0 h a.1, rest.widths) })

records_again : (rs : List Rec) (rest : List ℕ) → ListWidths rs → records_at (length rs) (flat_map record_bytes rs ++ rest) ≡ Some (rs, rest)
unfolding records_at
records_again [] rest w = refl
records_again (r ∷ rs) rest w =
    let regrouped : flat_map record_bytes (r ∷ rs) ++ rest ≡ record_bytes r ++ (flat_map record_bytes rs ++ rest) = ap (λ (t : List ℕ). t ++ rest) (flat_map-cons record_bytes r rs) ∙ append_assoc (record_bytes r) (flat_map record_bytes rs) rest in
    ap (records_at (suc (length rs))) regrouped ∙ rw (record_field.again r (flat_map record_bytes rs ++ rest) w.0, records_again rs rest w.1) refl

-- what a reader of a list took
list_takes : (bytes : List ℕ) (rs : List Rec) → AreBytes bytes → list_of bytes ≡ Some rs → ListWidths rs × (IsTrue (is_list rs) × (bytes ≡ list_bytes rs))
unfolding list_of list_bytes
list_takes bytes rs h e =
    let a = bind_some (records_at (length bytes / RECORD_LENGTH) bytes) (λ records. whole is_list records.0 records.1) rs e in
    let w = whole_is is_list a.0.0 rs a.0.1 a.2 in
    let t = records_take (length bytes / RECORD_LENGTH) bytes a.0 h a.1 in
    let parted : bytes ≡ flat_map record_bytes a.0.0 = t.parts ∙ ap (λ (r : List ℕ). flat_map record_bytes a.0.0 ++ r) w.0 ∙ append-nil (flat_map record_bytes a.0.0) in
    subst (λ (l : List Rec). ListWidths l × (IsTrue (is_list l) × (bytes ≡ flat_map record_bytes l))) w.1.1 (t.widths, (w.1.0, parted))

list_again : (rs : List Rec) → ListWidths rs → IsTrue (is_list rs) → list_of (list_bytes rs) ≡ Some rs
unfolding list_of list_bytes
list_again rs w a =
    let count : length (flat_map record_bytes rs) / RECORD_LENGTH ≡ length rs = ap (λ (n : ℕ). n / RECORD_LENGTH) (list_length rs) ∙ mul-div_cancel (length rs) (lit< tt) in
    let read : records_at (length (flat_map record_bytes rs) / RECORD_LENGTH) (flat_map record_bytes rs) ≡ Some (rs, []) =
    ap (λ (n : ℕ). records_at n (flat_map record_bytes rs)) count ∙ ap (records_at (length rs)) (sym (append-nil (flat_map record_bytes rs))) ∙ records_again rs [] w in
    ap (λ (o : Option (List Rec × List ℕ)). o >>= λ records. whole is_list records.0 records.1) read ∙ lets_through (is_list rs) rs a

pub list_exact : IsExact ListWidths is_list list_bytes list_of
list_exact = record {
  again = list_again;
  widths = λ bytes rs h e. (list_takes bytes rs h e).0;
  allowed = λ bytes rs h e. (list_takes bytes rs h e).1.0;
  same = λ bytes rs h e. (list_takes bytes rs h e).1.1;
}
