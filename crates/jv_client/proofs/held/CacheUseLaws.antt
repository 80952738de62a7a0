-- What steps do with the client's cache, by how they end.
use Rattle.std.proofs.Common.{◌≡◌, ℕ, true, false, List, Option, None, Some, refl, sym, ap, subst, ◌∙◌}
use Rattle.std.specs.Prelude.{IfSome, is_some}
use Rattle.jv_cache.specs.Cached.{Cached}
use Rattle.jv_model.specs.promise.client.Pending.{Segment}
use Rattle.jv_model.specs.declared.slice.BlockId.{BlockId}
use Rattle.jv_model.specs.declared.act.Told.{Told}
use Rattle.jv_model.specs.declared.act.Told.TheVariants.{Fine, Looks, Refused as ToldRefused}
use Rattle.jv_model.specs.declared.fault.Device.TheVariants.{Keeper}
use Rattle.jv_model.specs.declared.fault.Fault.{Fault}
use Rattle.jv_model.specs.declared.fault.Fault.TheVariants.{NoMemory, Stale}
use Rattle.jv_model.specs.declared.fault.Gone.TheVariants.{Session, Node}
use Rattle.jv_model.specs.declared.op.Op.{Op}
use Rattle.jv_model.specs.declared.op.Op.TheVariants as op
use Rattle.jv_model.specs.promise.journal.Steps.{is_failure}
use Rattle.jv_model.specs.promise.client.OpForms.{is_read}
use Rattle.jv_model.specs.client.OpForms.{is_umount}
use Rattle.jv_yard.specs.promise.YardValue.{YardValue}
use Rattle.jv_client.specs.declared.doing.Doing.{Doing}
use Rattle.jv_client.specs.declared.made.Made.{Made}
use Rattle.jv_client.specs.declared.made.Made.TheVariants as made
use Rattle.jv_client.specs.CacheUse.{CacheUse, Flushes, InRead, LooksOnly, MayFail, MayFailRows, MovesCache}
use Rattle.jv_client.specs.CacheUse.{MovesInRead, OfLook, OfSegment, ReadsAlone, is_put_due}
use Rattle.jv_client.specs.CacheUse.{ends_mount, fails_block, is_gone, leaves}
use Rattle.jv_client.specs.ClientValue.{ClientValue}
use Rattle.jv_client.specs.Failures.{says_failure}
use Rattle.jv_client.specs.Held.{flight_of}
use Rattle.jv_client.specs.Ending.{finished_here, refused_here, told_here}
use Rattle.jv_client.specs.Reading.{Untouched, ahead_from}
use Rattle.jv_client.specs.UnderWay.{has_segment, left, left_of}
use Rattle.jv_client.specs.Stats.{AnswersNumbers}

-- ---- what answers leave of a cache

finished-drops : (o : Op) (h : ClientValue) → is_umount o ≡ true → (finished_here o h).cache ≡ None
finished-drops op.Umount h e = refl
finished-drops (op.Close handle) h e = absurd (cc e)
finished-drops _ h e = absurd (cc e)

finished-keeps : (o : Op) (h : ClientValue) → is_umount o ≡ false → (finished_here o h).cache ≡ h.cache
finished-keeps op.Umount h e = absurd (cc e)
finished-keeps (op.Close handle) h e = refl
finished-keeps _ h e = refl

refused-drops : (fault : Fault) (h : ClientValue) → is_gone fault ≡ true → (refused_here fault h).cache ≡ None
refused-drops (Stale (Session sid)) h e = refl
refused-drops (Stale (Node inode)) h e = absurd (cc e)
refused-drops _ h e = absurd (cc e)

refused-keeps : (fault : Fault) (h : ClientValue) → is_gone fault ≡ false → (refused_here fault h).cache ≡ h.cache
refused-keeps (Stale (Session sid)) h e = absurd (cc e)
refused-keeps (Stale (Node inode)) h e = refl
refused-keeps _ h e = refl

told-drops : (o : Op) (told : Told) (h : ClientValue) → ends_mount o told ≡ true → (told_here o told h).cache ≡ None
told-drops o (Fine a b c d) h e = finished-drops o h e
told-drops o (Looks first second len) h e = finished-drops o h e
told-drops o (ToldRefused fault) h e = refused-drops fault h e

told-keeps : (o : Op) (told : Told) (h : ClientValue) → ends_mount o told ≡ false
    → (told_here o told h).cache ≡ h.cache
told-keeps o (Fine a b c d) h e = finished-keeps o h e
told-keeps o (Looks first second len) h e = finished-keeps o h e
told-keeps o (ToldRefused fault) h e = refused-keeps fault h e

-- that a device failed, or memory ran out, doesn't end the mount
pub failure-stays : (fault : Fault) → is_failure (ToldRefused fault) ≡ true → is_gone fault ≡ false
failure-stays (Stale (Session sid)) e = absurd (cc e)
failure-stays _ e = refl

-- ---- a step that looks nothing up

-- in a flush, of an operation that reads nothing, or of one that has no block ahead or no memory
pub data RestsBy (block : ℕ) (h : ClientValue) (d : Doing) (done : Made) : Type 0 where
  Flushing : is_some (left h) ≡ true → (fails_block done ≡ true → MayFail block h d done)
      → (says_failure Keeper done ≡ true → MayFailRows block h d) → RestsBy block h d done
  NoRead : is_read d.op ≡ false → fails_block done ≡ false → says_failure Keeper done ≡ false → RestsBy block h d done
  AsksRows : is_read d.op ≡ false → fails_block done ≡ false → MayFailRows block h d → RestsBy block h d done
  Alone : ReadsAlone done (ahead_from block h d) → RestsBy block h d done

alone-fails : (done : Made) (rest : List BlockId) → ReadsAlone done rest → fails_block done ≡ false
alone-fails (made.Answer (Looks first second len) reply) rest alone = refl
alone-fails (made.Answer (ToldRefused NoMemory) reply) rest alone = refl
alone-fails _ rest alone = absurd alone

alone-fails_rows : (done : Made) (rest : List BlockId) → ReadsAlone done rest → says_failure Keeper done ≡ false
alone-fails_rows (made.Answer (Looks first second len) reply) rest alone = refl
alone-fails_rows (made.Answer (ToldRefused NoMemory) reply) rest alone = refl
alone-fails_rows _ rest alone = absurd alone

fails-by : (block : ℕ) (h : ClientValue) (d : Doing) (done : Made) → RestsBy block h d done → fails_block done ≡ true
    → MayFail block h d done
fails-by block h d done (Flushing some may_fail may_fail_rows) fails = may_fail fails
fails-by block h d done (NoRead none fine calm) fails = absurd (cc (sym fine ∙ fails))
fails-by block h d done (AsksRows none fine may_fail_rows) fails = absurd (cc (sym fine ∙ fails))
fails-by block h d done (Alone reads) fails =
    absurd (let fine = alone-fails done (ahead_from block h d) reads in cc (sym fine ∙ fails))

fails_rows-by : (block : ℕ) (h : ClientValue) (d : Doing) (done : Made) → RestsBy block h d done
    → says_failure Keeper done ≡ true → MayFailRows block h d
fails_rows-by block h d done (Flushing some may_fail may_fail_rows) fails = may_fail_rows fails
fails_rows-by block h d done (NoRead none fine calm) fails = absurd (cc (sym calm ∙ fails))
fails_rows-by block h d done (AsksRows none fine may_fail_rows) fails = may_fail_rows
fails_rows-by block h d done (Alone reads) fails =
    absurd (let calm = alone-fails_rows done (ahead_from block h d) reads in cc (sym calm ∙ fails))

-- so does each step of a flush that says of no device that it failed
pub rests-calm : (block : ℕ) (h : ClientValue) (d : Doing) → is_some (left h) ≡ true → (done : Made)
    → fails_block done ≡ false → says_failure Keeper done ≡ false → RestsBy block h d done
rests-calm block h d some done fine calm =
    Flushing some (λ fails. absurd (cc (sym fine ∙ fails))) (λ fails. absurd (cc (sym calm ∙ fails)))

-- and, where a transaction may be made, each step that doesn't say of a block that it failed
abbrev pub RestsAlways : ℕ → ClientValue → Doing → Type 0
RestsAlways block h d = (done : Made) → fails_block done ≡ false → RestsBy block h d done

pub rests-flushing : (block : ℕ) (h : ClientValue) (d : Doing) → is_some (left h) ≡ true
    → is_put_due block (flight_of h) ≡ false → RestsAlways block h d
rests-flushing block h d some none_due done fine =
    Flushing some (λ fails. absurd (cc (sym fine ∙ fails))) (λ fails. OfSegment some none_due)

rests : (h : ClientValue) (d : Doing) (done : Made) (before used : YardValue) (after : ClientValue) (is : Option Cached)
    → RestsBy before.setting.block h d done → is_read d.op ≡ true → is ≡ h.cache
    → MovesInRead h d done before used after is
rests h d done before used after is (Flushing some may_fail may_fail_rows) read same = Flushes some same
rests h d done before used after is (NoRead none fine calm) read same = absurd (cc (sym none ∙ read))
rests h d done before used after is (AsksRows none fine may_fail_rows) read same = absurd (cc (sym none ∙ read))
rests h d done before used after is (Alone reads) read same = by_left (left h) refl
  where
    by_left : (segment : Option Segment) → left h ≡ segment → MovesInRead h d done before used after is
    by_left None e =
        LooksOnly (ahead_from before.setting.block h d) e reads (Untouched same)
    by_left (Some segment) e = Flushes (ap is_some e) same

-- what is left to flush of an operation that has a segment
pub left-some : (h : ClientValue) (d : Doing) → h.doing ≡ Some d → has_segment h d ≡ true → is_some (left h) ≡ true
left-some h d busy some = ap (λ o. is_some (left_of h.pending o)) busy ∙ some

-- ---- steps

module _ (h : ClientValue) (d : Doing) (busy : h.doing ≡ Some d) (after : ClientValue) (done : Made)
    (before used : YardValue) where
  in_doing : MovesCache d h after done before used → IfSome h.doing (λ (d : Doing). MovesCache d h after done before used)
  in_doing moves = subst (λ o. IfSome o (λ (d : Doing). MovesCache d h after done before used)) (sym busy) moves

  -- the mount goes on, and the cache is the same
  pub cache-stays : RestsBy before.setting.block h d done → leaves d.op done ≡ false → after.cache ≡ h.cache
      → AnswersNumbers h done → CacheUse h after done before used
  cache-stays by goes same numbers = record {
    moves = in_doing (record {
      drops = λ ends. absurd (cc (sym goes ∙ ends));
      stays = λ e other. same;
      reads = λ e read. rests h d done before used after after.cache by read same;
      fails = fails-by before.setting.block h d done by;
      fails_rows = fails_rows-by before.setting.block h d done by;
    });
    numbers = numbers;
  }

  -- an answer leaves what it leaves of a client with the same cache
  pub cache-ended : (mid : ClientValue) (told : Told) → RestsBy before.setting.block h d done
      → leaves d.op done ≡ ends_mount d.op told → mid.cache ≡ h.cache → after ≡ told_here d.op told mid
      → AnswersNumbers h done → CacheUse h after done before used
  cache-ended mid told by ends same is numbers =
      let keeps : leaves d.op done ≡ false → after.cache ≡ h.cache =
      λ goes. ap (λ (c : ClientValue). c.cache) is ∙ told-keeps d.op told mid (sym ends ∙ goes) ∙ same in
      record {
        moves = in_doing (record {
          drops = λ left. ap (λ (c : ClientValue). c.cache) is ∙ told-drops d.op told mid (sym ends ∙ left);
          stays = λ goes other. keeps goes;
          reads = λ goes read. rests h d done before used after after.cache by read (keeps goes);
          fails = fails-by before.setting.block h d done by;
          fails_rows = fails_rows-by before.setting.block h d done by;
        });
        numbers = numbers;
      }

  module _ (read : is_read d.op ≡ true) where
    -- a read goes on, or is answered
    pub cache-read : left h ≡ None → leaves d.op done ≡ false → MovesInRead h d done before used after after.cache
        → AnswersNumbers h done → CacheUse h after done before used
    cache-read none goes moves numbers = record {
      moves = in_doing (record {
        drops = λ ends. absurd (cc (sym goes ∙ ends));
        stays = λ e other. absurd (cc (sym read ∙ other));
        reads = λ e is. moves;
        fails = λ fails. InRead read none goes;
        fails_rows = λ fails. OfLook none read;
      });
      numbers = numbers;
    }

    -- or refused
    pub cache-refused : (c : ClientValue) (fault : Fault) → fails_block done ≡ false → says_failure Keeper done ≡ false
        → leaves d.op done ≡ is_gone fault
        → MovesInRead h d done before used after c.cache → after ≡ refused_here fault c → AnswersNumbers h done
        → CacheUse h after done before used
    cache-refused c fault fine calm ends moves is numbers = record {
      moves = in_doing (record {
        drops = λ left. ap (λ (c : ClientValue). c.cache) is ∙ refused-drops fault c (sym ends ∙ left);
        stays = λ e other. absurd (cc (sym read ∙ other));
        reads = λ goes is_read.
            subst (MovesInRead h d done before used after)
            (sym (ap (λ (c : ClientValue). c.cache) is ∙ refused-keeps fault c (sym ends ∙ goes))) moves;
        fails = λ fails. absurd (cc (sym fine ∙ fails));
        fails_rows = λ fails. absurd (cc (sym calm ∙ fails));
      });
      numbers = numbers;
    }
