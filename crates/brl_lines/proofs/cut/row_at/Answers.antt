use Rattle.std.proofs.Common.{arith, ◌≡◌, ◌≢◌, ◌≤◌, ◌<◌, ◌+◌, ◌-◌, ℕ, get_or, length}
use Rattle.std.proofs.lemmas.Str.{IsCharBoundary-after_ascii}
use Rattle.brl_lines.proofs.PieceLemmas.{piece_none}
use Rattle.brl_lines.proofs.RowLemmas.{cut_at_feed, cut_at_return, cut_at_end}
use Rattle.brl_lines.proofs.cut.row_at.Goals as goal
use Rattle.brl_lines.proofs.cut.row_at.Goals.{else-at-feed-via-then-at-feed+else-bytes-feed-eq13, else-at-feed-via-else-at-feed}

pub returns-then-feed-bytes-clause-cuts : goal.returns-then-feed-bytes-clause-cuts
returns-then-feed-bytes-clause-cuts c =
    let text = c.args.text.now in
    let end : c.feed_from-feed.result ≡ length c.args.text.now = omega arith in
    let before : (n : ℕ) → c.args.at ≤ n → n < c.feed_from-feed.result → get_or c.args.text.now n 0 ≢ 10 = rw (← c.as_bytes-bytes.ensures.value) c.feed_from-feed.ensures.before in
    rw (end, piece_none text (length text))
    (cut_at_end text c.args.at (length text - 1) (omega arith) (omega arith) (λ n low high. before n low (omega arith)))

pub returns-then-bytes-feed-eq13-clause-next_boundary : goal.returns-then-bytes-feed-eq13-clause-next_boundary
returns-then-bytes-feed-eq13-clause-next_boundary c =
    let feed : get_or c.args.text.now c.feed_from-feed.result 0 ≡ 10 = rw (← c.as_bytes-bytes.ensures.value) (c.feed_from-feed.ensures.feed (omega arith)) in
    IsCharBoundary-after_ascii c.args.text.now c.feed_from-feed.result c.utf8.text (omega arith) (omega arith)

pub returns-clause-next_boundary : goal.returns-clause-next_boundary
returns-clause-next_boundary c =
    let feed : get_or c.args.text.now c.feed_from-feed.result 0 ≡ 10 = rw (← c.as_bytes-bytes.ensures.value) (c.feed_from-feed.ensures.feed (omega arith)) in
    IsCharBoundary-after_ascii c.args.text.now c.feed_from-feed.result c.utf8.text (omega arith) (omega arith)

pub returns-then-bytes-feed-eq13-clause-cuts : goal.returns-then-bytes-feed-eq13-clause-cuts
returns-then-bytes-feed-eq13-clause-cuts c =
    let text = c.args.text.now in
    let m : ℕ = c.feed_from-feed.result - 1 in
    let next : m + 1 ≡ c.feed_from-feed.result = omega arith in
    let two : c.feed_from-feed.result + 1 ≡ m + 2 = omega arith in
    let feed : get_or c.args.text.now c.feed_from-feed.result 0 ≡ 10 = rw (← c.as_bytes-bytes.ensures.value) (c.feed_from-feed.ensures.feed (omega arith)) in
    let before : (n : ℕ) → c.args.at ≤ n → n < c.feed_from-feed.result → get_or c.args.text.now n 0 ≢ 10 = rw (← c.as_bytes-bytes.ensures.value) c.feed_from-feed.ensures.before in
    let return : get_or c.args.text.now (c.feed_from-feed.result - 1) 0 ≡ 13 = rw (← c.as_bytes-bytes.ensures.value) c.if-bytes-feed-eq13.true in
    rw two (cut_at_return text c.args.at (c.feed_from-feed.result - 1) (omega arith) (omega arith) (λ n low high. before n low (omega arith)) return (rw next feed))

pub returns-clause-cuts : goal.returns-clause-cuts
returns-clause-cuts c =
    let text = c.args.text.now in
    let feed : get_or c.args.text.now c.feed_from-feed.result 0 ≡ 10 = rw (← c.as_bytes-bytes.ensures.value) (c.feed_from-feed.ensures.feed (omega arith)) in
    let before : (n : ℕ) → c.args.at ≤ n → n < c.feed_from-feed.result → get_or c.args.text.now n 0 ≢ 10 = rw (← c.as_bytes-bytes.ensures.value) c.feed_from-feed.ensures.before in
    let plain : c.args.at < c.feed_from-feed.result → get_or c.args.text.now (c.feed_from-feed.result - 1) 0 ≢ 13 =
    elim c.else-at-feed.branch [ else-at-feed-via-then-at-feed+else-bytes-feed-eq13 w ↦ (λ _. rw (← c.as_bytes-bytes.ensures.value) w.if-bytes-feed-eq13.false) | else-at-feed-via-else-at-feed w ↦ (λ h. absurd (omega arith)) ] in
    cut_at_feed text c.args.at c.feed_from-feed.result c.feed_from-feed.ensures.range (omega arith) before feed plain
