-- How far a station may have come that was started grows with what passes, and grows alike.
use Rattle.std.proofs.lemmas.List.{length-replicate}
use Rattle.accusing.proofs.Resps.{none_there}
use Rattle.std.proofs.Common.{length, ◌≡◌, ◌≤◌, Bool, true, false, ◌||◌, ◌&&◌, eqb, refl, sym, ◌∙◌, arith}
use Rattle.ddcmp_msg.specs.Message.{MessageValue, Data, Ack, Nak, Rep, Strt, Stack}
use Rattle.accusing.specs.declared.heard.Heard.{Heard}
use Rattle.accusing.specs.declared.beginning.Beginning.{Beginning}
use Rattle.accusing.specs.Heard.{hears}
use Rattle.accusing.specs.Beginning.{begins, starts, is_strt, heard_if, runs, nothing_passed}
use Rattle.accusing.specs.Sight.{begins_if}
use Rattle.accusing.proofs.Modulo.{or_first, or_second, or_keeps}
use Rattle.accusing.proofs.Orders.{IsHeard, IsWithin, within_itself, within_trans, hears_is, hears_more, hears_mono}

pub record IsBeginning (b : Beginning) : Type 0 where
  pub zero : b.heard.received ≡ 0
  pub most : b.heard.reach ≤ 255
  pub size : length b.heard.resps ≡ 256

pub heard_is : (b : Beginning) → IsBeginning b → IsHeard b.heard
heard_is b is = record { byte = omega arith; most = is.most; size = is.size }

pub record ComesFrom (b t : Beginning) : Type 0 where
  pub strt : t.strt ≡ false → b.strt ≡ false
  pub run : t.run ≡ false → b.run ≡ false
  pub heard : IsWithin b.heard t.heard

pub from_itself : (b : Beginning) → IsBeginning b → ComesFrom b b
from_itself b is = record { strt = λ e. e; run = λ e. e; heard = within_itself b.heard (heard_is b is) }

pub from_trans : (b t u : Beginning) → ComesFrom b t → ComesFrom t u → ComesFrom b u
from_trans b t u p q = record {
  strt = λ e. p.strt (q.strt e);
  run = λ e. p.run (q.run e);
  heard = within_trans b.heard t.heard u.heard p.heard q.heard;
}

-- what was before is a beginning, and so is this
pub from_is : (b t : Beginning) → IsBeginning b → ComesFrom b t → IsBeginning t
from_is b t is p = record { zero = sym p.heard.received ∙ is.zero; most = p.heard.second.most; size = p.heard.second.size }

pub nothing_is : IsBeginning nothing_passed
nothing_is = record { zero = refl; most = omega arith; size = length-replicate 256 false }

pub nothing_first : (b : Beginning) → IsBeginning b → ComesFrom nothing_passed b
nothing_first b is = record {
  strt = λ e. refl;
  run = λ e. refl;
  heard = record {
    received = sym is.zero;
    reach = omega arith;
    answered = λ e. refl;
    nak = λ e. refl;
    resps = λ v e. absurd (none_there 256 v e);
    size = length-replicate 256 false;
    second = heard_is b is;
  };
}

heard_if_keeps : (c : Bool) (h : Heard) (m : MessageValue) → (heard_if c h m).received ≡ h.received
heard_if_keeps false h m = refl
heard_if_keeps true h (Data flags resp num body) = refl
heard_if_keeps true h (Ack flags resp) = refl
heard_if_keeps true h (Nak flags reason resp) = refl
heard_if_keeps true h (Rep flags num) = refl
heard_if_keeps true h (Strt flags) = refl
heard_if_keeps true h (Stack flags) = refl

heard_if_is : (c : Bool) (h : Heard) (m : MessageValue) → IsHeard h → IsHeard (heard_if c h m)
heard_if_is true h m is = hears_is h m is
heard_if_is false h m is = is

heard_if_more : (c : Bool) (h : Heard) (m : MessageValue) → IsHeard h → IsWithin h (heard_if c h m)
heard_if_more true h m is = hears_more h m is
heard_if_more false h m is = within_itself h is

pub begins_is : (b : Beginning) (m : MessageValue) → IsBeginning b → IsBeginning (begins b m)
begins_is b m is = record {
  zero = heard_if_keeps (runs b m) b.heard m ∙ is.zero;
  most = (heard_if_is (runs b m) b.heard m (heard_is b is)).most;
  size = (heard_if_is (runs b m) b.heard m (heard_is b is)).size;
}

pub begins_more : (b : Beginning) (m : MessageValue) → IsBeginning b → ComesFrom b (begins b m)
begins_more b m is = record {
  strt = or_first b.strt (is_strt m);
  run = or_first b.run (starts b m);
  heard = heard_if_more (runs b m) b.heard m (heard_is b is);
}

and_keeps : (a b c : Bool) → (b ≡ false → a ≡ false) → (b && c) ≡ false → (a && c) ≡ false
and_keeps false b c keeps e = refl
and_keeps true false c keeps e = absurd (let f = keeps refl in cc)
and_keeps true true c keeps e = e

starts_mono : (b t : Beginning) (m : MessageValue) → (t.strt ≡ false → b.strt ≡ false) → starts t m ≡ false → starts b m ≡ false
starts_mono b t (Data flags resp num body) keeps e = and_keeps b.strt t.strt (eqb resp 0) keeps e
starts_mono b t (Ack flags resp) keeps e = and_keeps b.strt t.strt (eqb resp 0) keeps e
starts_mono b t (Nak flags reason resp) keeps e = refl
starts_mono b t (Rep flags num) keeps e = refl
starts_mono b t (Strt flags) keeps e = refl
starts_mono b t (Stack flags) keeps e = e

or_both : (a b : Bool) → a ≡ false → b ≡ false → (a || b) ≡ false
or_both true b e f = absurd cc
or_both false b e f = f

runs_mono : (b t : Beginning) (m : MessageValue) → ComesFrom b t → runs t m ≡ false → runs b m ≡ false
runs_mono b t m p e = or_both b.run (starts b m) (p.run (or_first t.run (starts t m) e)) (starts_mono b t m p.strt (or_second t.run (starts t m) e))

heard_if_mono : (c d : Bool) (h t : Heard) (m : MessageValue) → (d ≡ false → c ≡ false) → IsHeard h → IsWithin h t →
    IsWithin (heard_if c h m) (heard_if d t m)
heard_if_mono true true h t m keeps is p = hears_mono h t m p
heard_if_mono true false h t m keeps is p = absurd (let f = keeps refl in cc)
heard_if_mono false true h t m keeps is p = within_trans h t (hears t m) p (hears_more t m p.second)
heard_if_mono false false h t m keeps is p = p

pub begins_mono : (b t : Beginning) (m : MessageValue) → IsBeginning b → ComesFrom b t → ComesFrom (begins b m) (begins t m)
begins_mono b t m is p = record {
  strt = or_keeps b.strt t.strt (is_strt m) p.strt;
  run = runs_mono b t m p;
  heard = heard_if_mono (runs b m) (runs t m) b.heard t.heard m (runs_mono b t m p) (heard_is b is) p.heard;
}

-- ---- what can have come after RUNNING was reached

pub if_is : (c : Bool) (g : Beginning) (m : MessageValue) → IsBeginning g → IsBeginning (begins_if c g m)
if_is true g m is = begins_is g m is
if_is false g m is = nothing_is

pub if_mono : (c d : Bool) (g t : Beginning) (m : MessageValue) → (d ≡ false → c ≡ false) → IsBeginning g → ComesFrom g t →
    ComesFrom (begins_if c g m) (begins_if d t m)
if_mono true true g t m keeps is p = begins_mono g t m is p
if_mono true false g t m keeps is p = absurd (let f = keeps refl in cc)
if_mono false true g t m keeps is p = nothing_first (begins t m) (begins_is t m (from_is g t is p))
if_mono false false g t m keeps is p = from_itself nothing_passed nothing_is

-- it is no more than what can have come after the start
pub if_first : (c : Bool) (g b : Beginning) (m : MessageValue) → IsBeginning g → IsBeginning b → ComesFrom g b →
    ComesFrom (begins_if c g m) (begins b m)
if_first true g b m is of_b p = begins_mono g b m is p
if_first false g b m is of_b p = nothing_first (begins b m) (begins_is b m of_b)
