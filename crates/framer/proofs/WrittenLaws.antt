-- Units as they are written are found, and what is found are units.
use Rattle.std.proofs.Common.{◌≡◌, ℕ, suc, ◌+◌, ◌/◌, ◌%◌, ◌<◌, ◌≤◌, inl, inr, Some, List, [], ◌∷◌, ◌++◌, length, get_or, take, drop}
use Rattle.std.proofs.Common.{refl, sym, ap, subst, ◌∙◌, arith}
use Rattle.std.specs.Prelude.{IsTrue}
use Rattle.std.specs.List.{AllByRecursion}
use Rattle.std.proofs.lemmas.List.{length-append, append-nil, get_or-take, length-take-le, take-take, take_at, drop_at}
use Rattle.std.proofs.lemmas.Bool.{cases_lt}
use Rattle.wire_base.specs.BlockCheck.{HasGoodCheck}
use Rattle.wire_base.proofs.BlockCheckTests.{AreBytes-take, AreBytes-drop, good_from_test, test_from_good}
use Rattle.ddcmp_msg.specs.Message.{MessageValue, Data, Ack, Nak, Rep, Strt, Stack, IsBytes, IsInRange, flags_byte}
use Rattle.ddcmp_msg.specs.Spelling.{header, IsUnit, IsRest}
use Rattle.ddcmp_msg.proofs.Fields.{low_back}
use Rattle.framer.specs.declared.kind.Kind.{Kind}
use Rattle.framer.specs.declared.kind.Kind.TheVariants.{Control, Data as DataKind, Maintenance}
use Rattle.framer.specs.declared.front.Front.TheVariants.{Between, Whole, Cut}
use Rattle.framer.specs.Framing.{is_between, kind_of, unit_len, front, framing, behind_unit}
use Rattle.framer.specs.Written.{IsFrame, IsGap, Placed, IsPlaced, line_of, units_of}
use Rattle.framer.proofs.Fronts.{Begins, IsCut, begins_whole, whole_parts, whole_len, cut_parts, unit_len_most, front_more}
use Rattle.framer.proofs.Framings.{IsKept, along, framing-nil, framing-between, framing-stray, framing-whole, framing-cut}

-- ---- what was written

front_between : (byte : ℕ) (bytes : List ℕ) → IsTrue (is_between byte) → front (byte ∷ bytes) ≡ Between
unfolding front
front_between byte bytes e = rw e refl

framing-gap : (gap bytes : List ℕ) → IsGap gap → framing (gap ++ bytes) ≡ framing bytes
framing-gap [] bytes h = refl
framing-gap (byte ∷ gap) bytes h = framing-between byte (gap ++ bytes) (front_between byte (gap ++ bytes) h.0) ∙ framing-gap gap bytes h.1

frame_whole : (unit : List ℕ) → IsFrame unit → front unit ≡ Whole (length unit)
frame_whole unit f =
    let b : Begins f.kind unit = record {
      start = f.start;
      long = f.long;
      good = test_from_good (take 8 unit) (AreBytes-take 8 unit f.bytes) f.check;
    } in
    let same = f.whole in
    begins_whole f.kind unit b (omega arith) ∙ ap Whole (sym f.whole)

whole_no_cut : (len : ℕ) → Whole len ≡ Cut → ⊥
whole_no_cut len e = absurd cc

framing-frame : (unit bytes : List ℕ) → IsFrame unit → framing (unit ++ bytes) ≡ behind_unit unit (framing bytes)
framing-frame unit bytes f =
    let w = frame_whole unit f in
    let more = front_more unit bytes (λ c. whole_no_cut (length unit) (sym w ∙ c)) in
    framing-whole (unit ++ bytes) (length unit) (more ∙ w)
    ∙ ap (λ (u : List ℕ). behind_unit u (framing (drop (length unit) (unit ++ bytes)))) (take_at unit bytes (length unit) refl)
    ∙ ap (λ (r : List ℕ). behind_unit unit (framing r)) (drop_at unit bytes (length unit) refl)

pub written : (placed : List Placed) (last : List ℕ) → AllByRecursion IsPlaced placed → IsGap last →
    framing (line_of placed last) ≡ record { units = units_of placed; strays = 0; left = [] }
written [] last h gap = ap framing (sym (append-nil last)) ∙ framing-gap last [] gap ∙ framing-nil
written (p ∷ placed) last h gap =
    framing-gap p.gap (p.unit ++ line_of placed last) h.0.gap ∙ framing-frame p.unit (line_of placed last) h.0.frame
    ∙ ap (behind_unit p.unit) (written placed last h.1 gap)

-- ---- what is found

IsBytes-cons : (byte : ℕ) (bytes : List ℕ) → IsBytes (byte ∷ bytes) → IsBytes bytes
IsBytes-cons byte bytes h = λ i. h (suc i)

Begins-take : (kind : Kind) (bytes : List ℕ) (len : ℕ) → Begins kind bytes → 8 ≤ len → len ≤ length bytes → Begins kind (take len bytes)
Begins-take kind bytes len b least within = record {
  start = rw get_or_first b.start;
  long = omega (arith, length-take-le len bytes within);
  good = rw (take-take 8 len bytes least) b.good;
}
  where
    get_or_first : get_or (take len bytes) 0 0 ≡ get_or bytes 0 0
    get_or_first = get_or-take len bytes 0 0 (omega arith)

unit_len-take : (kind : Kind) (bytes : List ℕ) (len : ℕ) → 8 ≤ len → unit_len kind (take len bytes) ≡ unit_len kind bytes
unit_len-take Control bytes len h = refl
unit_len-take DataKind bytes len h = rw (get_or-take len bytes 1 0 (omega arith), get_or-take len bytes 2 0 (omega arith)) refl
unit_len-take Maintenance bytes len h = rw (get_or-take len bytes 1 0 (omega arith), get_or-take len bytes 2 0 (omega arith)) refl

found_frame : (bytes : List ℕ) (len : ℕ) → IsBytes bytes → front bytes ≡ Whole len → IsFrame (take len bytes)
found_frame bytes len fits e =
    let w = whole_parts bytes len e in
    let n = whole_len bytes len e in
    let b = Begins-take w.kind bytes len w.begins n.0 n.1 in
    record {
      bytes = AreBytes-take len bytes fits;
      kind = w.kind;
      start = b.start;
      long = b.long;
      check = good_from_test (take 8 (take len bytes)) (AreBytes-take 8 (take len bytes) (AreBytes-take len bytes fits)) b.good;
      whole = length-take-le len bytes n.1 ∙ w.len_is ∙ sym (unit_len-take w.kind bytes len n.0);
    }

abbrev AllFrames : List ℕ → Type 0
AllFrames bytes = IsBytes bytes → AllByRecursion IsFrame (framing bytes).units

all_kept : IsKept AllFrames
all_kept = record {
  between = λ byte bytes e p fits. rw (framing-between byte bytes e) (p (IsBytes-cons byte bytes fits));
  stray = λ byte bytes e p fits. rw (framing-stray byte bytes e) (p (IsBytes-cons byte bytes fits));
  whole = λ bytes len e p fits. rw (framing-whole bytes len e) (found_frame bytes len fits e, p (AreBytes-drop len bytes fits));
  cut = λ bytes e fits. rw (framing-cut bytes e) tt;
}

pub all_frames : (bytes : List ℕ) → AllFrames bytes
all_frames = along AllFrames all_kept (λ fits. rw framing-nil tt)

-- ---- what is left

abbrev LeftShort : List ℕ → Type 0
LeftShort bytes = IsBytes bytes → length (framing bytes).left < 16393

cut_short : (bytes : List ℕ) → IsBytes bytes → front bytes ≡ Cut → length bytes < 16393
cut_short bytes fits e =
    elim (cases_lt (length bytes) 8) as (λ _. length bytes < 16393) [
      | inl h ↦ omega arith
      | inr h ↦ by_parts (cut_parts bytes e h)
    ]
  where
    by_parts : IsCut bytes → length bytes < 16393
    by_parts c = let most = unit_len_most c.kind bytes (fits 1) in let h = c.more in omega arith

left_kept : IsKept LeftShort
left_kept = record {
  between = λ byte bytes e p fits. rw (framing-between byte bytes e) (p (IsBytes-cons byte bytes fits));
  stray = λ byte bytes e p fits. rw (framing-stray byte bytes e) (p (IsBytes-cons byte bytes fits));
  whole = λ bytes len e p fits. rw (framing-whole bytes len e) (p (AreBytes-drop len bytes fits));
  cut = λ bytes e fits. rw (framing-cut bytes e) (cut_short bytes fits e);
}

pub left_short : (bytes : List ℕ) → LeftShort bytes
left_short = along LeftShort left_kept (λ fits. rw framing-nil (omega arith))

-- ---- messages

length-header : (message : MessageValue) → length (header message) ≡ 6
length-header (Data flags resp num body) = refl
length-header (Ack flags resp) = refl
length-header (Nak flags reason resp) = refl
length-header (Rep flags num) = refl
length-header (Strt flags) = refl
length-header (Stack flags) = refl

-- how a message's header, with two bytes behind it, is framed with what follows
record IsHeaded (message : MessageValue) (low high : ℕ) (rest : List ℕ) : Type 0 where
  kind : Kind
  start : kind_of (get_or ((header message ++ low ∷ high ∷ []) ++ rest) 0 0) ≡ Some kind
  whole : length ((header message ++ low ∷ high ∷ []) ++ rest) ≡ unit_len kind ((header message ++ low ∷ high ∷ []) ++ rest)

control_len : (rest : List ℕ) → rest ≡ [] → suc (suc (suc (suc (suc (suc (suc (suc (length rest)))))))) ≡ 8
control_len rest e = rw e refl

headed : (message : MessageValue) (low high : ℕ) (rest : List ℕ) → IsInRange message → IsRest message rest → IsHeaded message low high rest
headed (Data flags resp num body) low high rest range checked =
    let n = length body in
    let long = length-append body (checked.0 ∷ checked.1 ∷ []) in
    let rest_len : length rest ≡ n + 2 = ap length checked.2 ∙ long in
    let high_back : (n / 256 + flags_byte flags) % 64 ≡ n / 256 = let most = range.1 in low_back (n / 256) flags (omega arith) in
    record { kind = DataKind; start = refl; whole = rw high_back (omega arith) }
headed (Ack flags resp) low high rest range e = record { kind = Control; start = refl; whole = control_len rest e }
headed (Nak flags reason resp) low high rest range e = record { kind = Control; start = refl; whole = control_len rest e }
headed (Rep flags num) low high rest range e = record { kind = Control; start = refl; whole = control_len rest e }
headed (Strt flags) low high rest range e = record { kind = Control; start = refl; whole = control_len rest e }
headed (Stack flags) low high rest range e = record { kind = Control; start = refl; whole = control_len rest e }

pub message_frame : (message : MessageValue) (unit : List ℕ) → IsUnit message unit → IsFrame unit
message_frame message unit u =
    let low = u.head_is.0 in
    let high = u.head_is.1 in
    let same : unit ≡ (header message ++ low ∷ high ∷ []) ++ u.rest = u.whole ∙ ap (λ (h : List ℕ). h ++ u.rest) u.head_is.2 in
    let h = headed message low high u.rest u.in_range u.rest_is in
    let head_len : length u.head ≡ 8 = ap length u.head_is.2 ∙ length-append (header message) (low ∷ high ∷ []) ∙
    ap (λ (n : ℕ). n + 2) (length-header message) in
    let long : length unit ≡ 8 + length u.rest = ap length u.whole ∙ length-append u.head u.rest ∙ ap (λ (n : ℕ). n + length u.rest) head_len in
    record {
      bytes = u.bytes;
      kind = h.kind;
      start = subst (λ (b : List ℕ). kind_of (get_or b 0 0) ≡ Some h.kind) (sym same) h.start;
      long = omega arith;
      check = subst HasGoodCheck (sym (take_at u.head u.rest 8 head_len) ∙ ap (take 8) (sym u.whole)) u.head_is.3;
      whole = subst (λ (b : List ℕ). length b ≡ unit_len h.kind b) (sym same) h.whole;
    }
