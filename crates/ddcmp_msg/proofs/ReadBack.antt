-- The spelling of a message is read as the message.
use Rattle.std.proofs.Common.{◌≡◌, ℕ, ◌+◌, ◌-◌, ◌*◌, ◌/◌, ◌%◌, ◌<◌, ◌≤◌, true, List, ◌++◌, length, take, refl, ◌∙◌, arith}
use Rattle.std.specs.Prelude.{slice_index, slice_range}
use Rattle.std.proofs.lemmas.Bool.{le-ltb, ne_eqb}
use Rattle.std.proofs.lemmas.List.{length-append, take_at, take_all}
use Rattle.wire_base.specs.BlockCheck.{is_good, check_bytes}
use Rattle.ddcmp_msg.specs.declared.flags.Flags.{Flags}
use Rattle.ddcmp_msg.specs.Message.{MessageValue, Data, Ack, Nak, Rep, Strt, Stack, IsInRange, flags_byte, reason_number}
use Rattle.ddcmp_msg.specs.Spelling.{header, with_check, spelling}
use Rattle.ddcmp_msg.specs.Reading.{Sound, reading, count_of, unit_flags, receiver_of, sender_of, address_of}
use Rattle.ddcmp_msg.proofs.Checked.{length-with_check, is_good-with_check}
use Rattle.ddcmp_msg.proofs.Fields.{low_back, flags_back, reason_back, reason-lt}

-- a data message, by each test that its unit passes
pub reading_of_data : (unit : List ℕ) (count : ℕ) → 8 ≤ length unit → is_good (take 8 unit) ≡ true → slice_index unit 0 ≡ 0x81 →
    count_of unit ≡ count → 1 ≤ count
    → length unit ≡ count + 10 → is_good (slice_range unit 8 (count + 10)) ≡ true → address_of unit ≡ 1
    → reading unit ≡ Sound (Data (unit_flags unit) (receiver_of unit) (sender_of unit) (slice_range unit 8 (8 + count)))
unfolding reading
reading_of_data unit count long good start counts some whole part address =
    let n0 = le-ltb _ _ long in
    let n1 = ne_eqb count 0 (λ e. omega arith) in
    let n2 = le-ltb (length unit) (count + 10) (omega arith) in
    let n3 = le-ltb (count + 10) (length unit) (omega arith) in
    rw (n0, good, start, counts, n1, n2, part, n3, address) refl

read_back_data : (flags : Flags) (resp num : ℕ) (body : List ℕ) → 1 ≤ length body → length body ≤ 16383 →
    reading (spelling (Data flags resp num body)) ≡ Sound (Data flags resp num body)
unfolding spelling
read_back_data flags resp num body some most =
    let head = header (Data flags resp num body) in
    let n = length body in
    let high : n / 256 < 64 = omega arith in
    let counts : n % 256 + 256 * ((n / 256 + flags_byte flags) % 64) ≡ n = omega (arith, low_back (n / 256) flags high) in
    let len : length (with_check head ++ with_check body) ≡ n + 10 =
    omega (arith, length-with_check body, length-append (with_check head) (with_check body)) in
    let rest : take (n + 10 - 8) (with_check body) ≡ with_check body =
    take_all (n + 10 - 8) (with_check body) (omega (arith, length-with_check body)) in
    let whole : take (8 + n - 8) (with_check body) ≡ body = take_at body (check_bytes body) (8 + n - 8) (omega arith) in
    reading_of_data (spelling (Data flags resp num body)) n (omega arith) (is_good-with_check head) refl counts some len
    (rw rest (is_good-with_check body)) refl
    ∙ rw (flags_back (n / 256) flags high, whole) refl

pub reading-spelling : (message : MessageValue) → IsInRange message → reading (spelling message) ≡ Sound message
unfolding reading spelling
reading-spelling (Data flags resp num body) fits = read_back_data flags resp num body fits.0 fits.1
reading-spelling (Ack flags resp) fits =
    rw (is_good-with_check (header (Ack flags resp)), low_back 0 flags (omega arith), flags_back 0 flags (omega arith)) refl
reading-spelling (Nak flags reason resp) fits =
    rw (
      is_good-with_check (header (Nak flags reason resp)),
      low_back (reason_number reason) flags (reason-lt reason),
      reason_back reason,
      flags_back (reason_number reason) flags (reason-lt reason),
    ) refl
reading-spelling (Rep flags num) fits =
    rw (is_good-with_check (header (Rep flags num)), low_back 0 flags (omega arith), flags_back 0 flags (omega arith)) refl
reading-spelling (Strt flags) fits = rw (is_good-with_check (header (Strt flags)), low_back 0 flags (omega arith), flags_back 0 flags (omega arith))
    refl
reading-spelling (Stack flags) fits = rw (is_good-with_check (header (Stack flags)), low_back 0 flags (omega arith), flags_back 0 flags (omega arith))
    refl
