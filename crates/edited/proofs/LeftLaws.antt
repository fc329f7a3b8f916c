-- What is left of changes, where bytes were given or left out.
use Rattle.std.proofs.Common.{◌≡◌, ℕ, ◌+◌, ◌≤◌, List, [], ◌++◌, length, take, drop, Option, Some, None}
use Rattle.std.proofs.Common.{refl, sym, ap, ◌∙◌}
use Rattle.std.specs.Prelude.{option_map}
use Rattle.std.specs.Io.KnownBytes.{prepend_known, Consumes, IsAtEnd, Keeps}
use Rattle.std.proofs.lemmas.List.{append_assoc, take-append-drop, take-append-le, drop-append-le, take_at, length-take-le, drop-drop}
use Rattle.std.proofs.Math.ListN.{drop_of_length-le}
use Rattle.edited.specs.declared.reader.Left.{Left}
use Rattle.edited.specs.Edited.{first_lines, behind_lines, edited}
use Rattle.edited.specs.Reader.{edited_on}
use Rattle.edited.specs.inner.Lines.{Reaches}
use Rattle.edited.proofs.LineLaws.{first-nil, behind-nil}

-- ---- known bytes

pub consumes_known : (f g : List ℕ → List ℕ) (old new front : List ℕ) (rest : Option (List ℕ)) →
    ((r : List ℕ) → f (old ++ r) ≡ front ++ g (new ++ r)) →
    Consumes (option_map f (prepend_known old rest)) (option_map g (prepend_known new rest)) front
consumes_known f g old new front None h = tt
consumes_known f g old new front (Some r) h = h r

pub keeps_known : (f g : List ℕ → List ℕ) (old new : List ℕ) (rest : Option (List ℕ)) →
    ((r : List ℕ) → g (new ++ r) ≡ f (old ++ r)) →
    Keeps (option_map f (prepend_known old rest)) (option_map g (prepend_known new rest))
keeps_known f g old new None h = tt
keeps_known f g old new (Some r) h = h r

pub Keeps-Consumes : (a b c : Option (List ℕ)) (bytes : List ℕ) → Keeps a b → Consumes b c bytes → Consumes a c bytes
Keeps-Consumes None b c bytes same took = tt
Keeps-Consumes (Some xs) None c bytes same took = absurd same
Keeps-Consumes (Some xs) (Some ys) None bytes same took = absurd took
Keeps-Consumes (Some xs) (Some ys) (Some zs) bytes same took = sym same ∙ took

-- ---- a buffer whose front was written

pub front_given : (len : ℕ) (bytes buf : List ℕ) → len ≤ length bytes → take len (take len bytes ++ drop len buf) ≡ take len bytes
front_given len bytes buf le = take_at (take len bytes) (drop len buf) len (length-take-le len bytes le)

pub put_given : (given len : ℕ) (put buf : List ℕ) → len ≤ length (drop given put) →
    drop given put ≡ take len (take len (drop given put) ++ drop len buf) ++ drop (given + len) put
put_given given len put buf le =
    sym (take-append-drop len (drop given put))
    ∙ rw (front_given len (drop given put) buf le, drop-drop len given put) refl

-- ---- lines

-- where the beginning of what was read ahead was looked at
pub passes : (lines left len most : ℕ) (ahead r : List ℕ) → Reaches lines (take most ahead) len left →
    (first_lines lines (ahead ++ r) ≡ take len ahead ++ first_lines left (drop len ahead ++ r))
    × (behind_lines lines (ahead ++ r) ≡ behind_lines left (drop len ahead ++ r))
passes lines left len most ahead r reaches =
    let rest = drop most ahead ++ r in
    let whole : take most ahead ++ drop most ahead ≡ ahead = take-append-drop most ahead in
    let parts : ahead ++ r ≡ take most ahead ++ rest =
    ap (λ (t : List ℕ). t ++ r) (sym whole) ∙ append_assoc (take most ahead) (drop most ahead) r in
    let front : take len (take most ahead) ≡ take len ahead =
    sym (take-append-le len (take most ahead) (drop most ahead) reaches.within) ∙ ap (take len) whole in
    let back : drop len (take most ahead) ++ rest ≡ drop len ahead ++ r =
    sym (append_assoc (drop len (take most ahead)) (drop most ahead) r)
    ∙ ap (λ (t : List ℕ). t ++ r) (sym (drop-append-le len (take most ahead) (drop most ahead) reaches.within) ∙ ap (drop len) whole) in (
      ap (first_lines lines) parts ∙ reaches.first rest
          ∙ ap (λ (t : List ℕ). t ++ first_lines left (drop len (take most ahead) ++ rest)) front
          ∙ ap (λ (t : List ℕ). take len ahead ++ first_lines left t) back,
      ap (behind_lines lines) parts ∙ reaches.behind rest ∙ ap (behind_lines left) back,
    )

pub lines_given : (l : Left) (left len most : ℕ) (ahead r : List ℕ) → Reaches l.passed (take most ahead) len left →
    edited_on l (ahead ++ r) ≡ take len ahead ++ edited_on (record l { passed = left }) (drop len ahead ++ r)
lines_given l left len most ahead r reaches =
    let p = passes l.passed left len most ahead r reaches in
    let put = drop l.given l.put.items in
    let text = drop len ahead ++ r in
    let rest = edited l.later.items (behind_lines l.dropped (behind_lines left text)) in
    ap (λ (t : List ℕ). t ++ put ++ edited l.later.items (behind_lines l.dropped (behind_lines l.passed (ahead ++ r)))) p.0
    ∙ ap (λ (t : List ℕ). take len ahead ++ first_lines left text ++ put ++ edited l.later.items (behind_lines l.dropped t)) p.1
    ∙ ap (λ (t : List ℕ). t ++ rest) (append_assoc (take len ahead) (first_lines left text) put)
    ∙ append_assoc (take len ahead) (first_lines left text ++ put) rest

pub lines_dropped : (l : Left) (left len : ℕ) (ahead r : List ℕ) → l.passed ≡ 0 → Reaches l.dropped ahead len left →
    edited_on (record l { dropped = left }) (drop len ahead ++ r) ≡ edited_on l (ahead ++ r)
lines_dropped l left len ahead r passed reaches =
    rw passed (ap (λ (t : List ℕ). drop l.given l.put.items ++ edited l.later.items t) (sym (reaches.behind r)))

-- ---- at the end of the text

at_end : (f g : List ℕ → List ℕ) (ahead : List ℕ) (rest : Option (List ℕ)) → ahead ≡ [] → IsAtEnd rest → g [] ≡ f [] →
    Keeps (option_map f (prepend_known ahead rest)) (option_map g (prepend_known ahead rest))
at_end f g ahead None none end same = tt
at_end f g ahead (Some r) none end same =
    let text : ahead ++ r ≡ [] = ap (λ (t : List ℕ). t ++ r) none ∙ end in
    ap g text ∙ same ∙ sym (ap f text)

pub ended_passed : (l : Left) (ahead : List ℕ) (rest : Option (List ℕ)) → ahead ≡ [] → IsAtEnd rest →
    Keeps (option_map (edited_on l) (prepend_known ahead rest)) (option_map (edited_on (record l { passed = 0 })) (prepend_known ahead rest))
ended_passed l ahead rest none end =
    let put = drop l.given l.put.items in
    at_end (edited_on l) (edited_on (record l { passed = 0 })) ahead rest none end
    (ap (λ (t : List ℕ). t ++ put ++ edited l.later.items (behind_lines l.dropped [])) (sym (first-nil l.passed))
    ∙ ap (λ (t : List ℕ). first_lines l.passed [] ++ put ++ edited l.later.items (behind_lines l.dropped t)) (sym (behind-nil l.passed)))

pub ended_dropped : (l : Left) (ahead : List ℕ) (rest : Option (List ℕ)) → ahead ≡ [] → IsAtEnd rest →
    Keeps (option_map (edited_on l) (prepend_known ahead rest)) (option_map (edited_on (record l { dropped = 0 })) (prepend_known ahead rest))
ended_dropped l ahead rest none end =
    let put = drop l.given l.put.items in
    let passed : behind_lines l.passed [] ≡ [] = behind-nil l.passed in
    at_end (edited_on l) (edited_on (record l { dropped = 0 })) ahead rest none end
    (ap (λ (t : List ℕ). first_lines l.passed [] ++ put ++ edited l.later.items t)
    (passed ∙ sym (behind-nil l.dropped) ∙ ap (behind_lines l.dropped) (sym passed)))

-- ---- where nothing is left of the change at hand

pub change_done : (l : Left) → l.passed ≡ 0 → length l.put.items ≤ l.given → l.dropped ≡ 0 → (text : List ℕ) →
    edited_on l text ≡ edited l.later.items text
change_done l passed given dropped text = rw (passed, dropped, drop_of_length-le l.put.items given) refl

pub all_done : (l : Left) → l.passed ≡ 0 → length l.put.items ≤ l.given → l.dropped ≡ 0 → l.later.items ≡ [] → (text : List ℕ) →
    edited_on l text ≡ text
all_done l passed given dropped last text = change_done l passed given dropped text ∙ rw last refl
