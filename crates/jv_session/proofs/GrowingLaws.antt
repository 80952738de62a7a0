-- A yard grows by what is put, and by no more.
use Rattle.std.proofs.Common.{◌≡◌, ℕ, Bool, true, false, cond, List, [], ◌∷◌, ◌++◌, Option, Some, refl, sym, ap, subst, ◌∙◌}
use Rattle.std.specs.Prelude.{All, IsSome}
use Rattle.std.specs.Ordering.{eq_by_cmp}
use Rattle.std.proofs.lemmas.List.Elements.{All-append, All-cons, All-nil}
use Rattle.std.proofs.lemmas.List.Elements.{Contains-append_left, Contains-append_right, Contains-push}
use Rattle.jv_model.specs.declared.setting.Setting.{Setting}
use Rattle.jv_model.specs.declared.slice.BlockId.{BlockId}
use Rattle.jv_model.specs.promise.FiniteMap.{get, text_key}
use Rattle.jv_model.proofs.FiniteMapLaws.{get-insert}
use Rattle.jv_model.proofs.TestLaws.{tie_is}
use Rattle.jv_model.specs.promise.blocks.BlockNames.{IsBlock, name_in}
use Rattle.jv_outside.specs.promise.Objects.{ObjectMap}
use Rattle.jv_outside.specs.Objects.{with_object}
use Rattle.jv_volume_bytes.specs.Flights.{flight_block, flight_bytes}
use Rattle.jv_yard.specs.promise.YardValue.{YardValue}
use Rattle.jv_yard.proofs.ContentsLaws.{put-objects}
use Rattle.jv_client.specs.declared.made.Made.{Made}
use Rattle.jv_client.specs.ClientValue.{ClientValue}
use Rattle.jv_client.specs.YardUse.{PutsNext, PutsNone, PutsOneAtMost, YardUse}
use Rattle.jv_session.specs.promise.Growing.{HasName, ObjectsStay, YardGrows}

-- nothing was put
objects_same : (setting : Setting) (objects : ObjectMap) (content : Option ObjectMap) → content ≡ Some objects
    → ObjectsStay setting [] objects content
objects_same setting objects content known = record {
  after = objects;
  known = known;
  there = λ name some. some;
  others = λ name none. refl;
}

pub grows_none : (yard : YardValue) → YardGrows yard yard
grows_none yard = record {
  staged = refl;
  puts = [];
  blocks = All-nil (IsBlock yard.setting.block);
  objects = λ objects known. objects_same yard.setting objects yard.depot.content known;
}

-- one block was put
module _ (setting : Setting) (b : BlockId) (bytes : List ℕ) (at : ℕ) (objects : ObjectMap) where
  some_there : {X : Type 0} (value : X) (test : Bool) (o : Option X) → IsSome o → IsSome (cond test (Some value) o)
  some_there value true o some = refl
  some_there value false o some = some

  there_put : (name : List ℕ) → IsSome (get objects name) → IsSome (get (with_object (name_in setting b) bytes at objects) name)
  there_put name some = subst (λ o. IsSome o) (sym (get-insert objects (name_in setting b) (bytes, at) name))
      (some_there (bytes, at) (eq_by_cmp text_key.cmp name (name_in setting b)) (get objects name) some)

  other_put : (name : List ℕ) (test : Bool) → eq_by_cmp text_key.cmp name (name_in setting b) ≡ test
      → (HasName setting (b ∷ []) name → ⊥) → get (with_object (name_in setting b) bytes at objects) name ≡ get objects name
  other_put name true tied none = absurd (none (record {
    block = b;
    among = Contains-push [] b;
    named = text_key.same name (name_in setting b) (tie_is _ tied);
  }))
  other_put name false tied none =
      get-insert objects (name_in setting b) (bytes, at) name ∙ ap (λ t. cond t (Some (bytes, at)) (get objects name)) tied

  objects_put : (content : Option ObjectMap) → content ≡ Some (with_object (name_in setting b) bytes at objects)
      → ObjectsStay setting (b ∷ []) objects content
  objects_put content known = record {
    after = with_object (name_in setting b) bytes at objects;
    known = known;
    there = there_put;
    others = λ name none. other_put name (eq_by_cmp text_key.cmp name (name_in setting b)) refl none;
  }

-- a step puts one block at most
module _ (now : ℕ) (h : ClientValue) (made : Made) (before after : YardValue) (staged : after.staged ≡ before.staged) where
  grows_by : PutsOneAtMost now h made before after → YardGrows before after
  grows_by (PutsNone log same) = record {
    staged = staged;
    puts = [];
    blocks = All-nil (IsBlock before.setting.block);
    objects = λ objects known. objects_same before.setting objects after.depot.content (same ∙ known);
  }
  grows_by (PutsNext flight is request block next noted) =
      let b = flight_block before.setting.block flight flight.put in
      let bytes = flight_bytes before.setting.block flight flight.put in
      record {
        staged = staged;
        puts = b ∷ [];
        blocks = All-cons (IsBlock before.setting.block) b [] block (All-nil (IsBlock before.setting.block));
        objects = λ objects known. objects_put before.setting b bytes now objects after.depot.content
            (put-objects h.id next.parcel before after (name_in before.setting b) bytes now objects next.put next.stands known);
      }

pub grows_step : (now : ℕ) (h : ClientValue) (made : Made) (before after : YardValue) → YardUse now h made before after
    → YardGrows before after
grows_step now h made before after used = grows_by now h made before after used.staged used.puts

-- one after another

more_first : (setting : Setting) (blocks more : List BlockId) (name : List ℕ) → HasName setting blocks name
    → HasName setting (blocks ++ more) name
more_first setting blocks more name has =
    record { block = has.block; among = Contains-append_left blocks more has.block has.among; named = has.named }

more_last : (setting : Setting) (blocks more : List BlockId) (name : List ℕ) → HasName setting more name
    → HasName setting (blocks ++ more) name
more_last setting blocks more name has =
    record { block = has.block; among = Contains-append_right blocks more has.block has.among; named = has.named }

objects_then : (setting : Setting) (blocks more : List BlockId) (first : ObjectMap) (second third : Option ObjectMap)
    (a : ObjectsStay setting blocks first second) → ObjectsStay setting more a.after third
    → ObjectsStay setting (blocks ++ more) first third
objects_then setting blocks more first second third a b = record {
  after = b.after;
  known = b.known;
  there = λ name some. b.there name (a.there name some);
  others = λ name none. b.others name (λ has. none (more_last setting blocks more name has))
      ∙ a.others name (λ has. none (more_first setting blocks more name has));
}

pub grows_then : (first second third : YardValue) → second.setting ≡ first.setting → YardGrows first second
    → YardGrows second third → YardGrows first third
grows_then first second third same a b = record {
  staged = b.staged ∙ a.staged;
  puts = a.puts ++ b.puts;
  blocks = All-append (IsBlock first.setting.block) a.puts b.puts a.blocks
      (subst (λ (s : Setting). All (IsBlock s.block) b.puts) same b.blocks);
  objects = λ objects known.
      let now = a.objects objects known in
      objects_then first.setting a.puts b.puts objects second.depot.content third.depot.content now
      (subst (λ (s : Setting). ObjectsStay s b.puts now.after third.depot.content) same (b.objects now.after now.known));
}
