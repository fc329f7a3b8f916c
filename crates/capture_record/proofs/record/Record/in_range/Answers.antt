use Rattle.capture_record.proofs.RangeLaws.{sent_tested, received_tested, noise_tested}
use Rattle.capture_record.proofs.record.Record.in_range.Goals as goal

pub returns-in-Sent : goal.returns-in-Sent
returns-in-Sent c = sent_tested c.args.self.now c.as_slice.result.now c.in-Sent.bytes c.in-Sent.is c.as_slice.ensures.value c.as_slice.ensures.bytes

pub returns-then-hint-le-MAX_HINT : goal.returns-then-hint-le-MAX_HINT
returns-then-hint-le-MAX_HINT c =
    let slice = c.as_slice-then-hint-le-MAX_HINT in
    received_tested c.args.self.now slice.result.now c.in-Received.bytes c.in-Received.hint c.in-Received.fate c.in-Received.is slice.ensures.value
    slice.ensures.bytes c.if-hint-le-MAX_HINT.true

pub returns-in-Noise : goal.returns-in-Noise
returns-in-Noise c = noise_tested c.args.self.now c.as_slice-in-Noise.result.now c.in-Noise.bytes c.in-Noise.is c.as_slice-in-Noise.ensures.value
    c.as_slice-in-Noise.ensures.bytes
