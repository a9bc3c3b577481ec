use Rattle.std.proofs.Common.{[], arith}
use Rattle.std.proofs.lemmas.List.{append-nil, take-append-drop}
use Rattle.cfi_verify.proofs.Fed.{fed_all, fed_begins, fed_more, fed_room}
use Rattle.cfi_verify.proofs.verifier.feed_code.Goals as goal

pub loop-rest-init : goal.loop-rest-init
loop-rest-init g c = fed_begins c.args.code.now c.args.scan.now

pub feed-requires : goal.feed-requires
feed-requires g c =
    let room = fed_room c.args.code.now c.loop-rest.rest.now c.args.scan.now c.loop-rest.scan c.loop-rest.invariant in
    let few = c.split_at.ensures.front_len in record { small = omega arith }

pub loop-rest-preserved : goal.loop-rest-preserved
loop-rest-preserved g c =
    fed_more _ c.loop-rest.rest.now c.split_at.result.0.now _ _ _ _ c.loop-rest.invariant
    (rw (c.split_at.ensures.front, c.split_at.ensures.back) (take-append-drop 4096 c.loop-rest.rest.now))
    (record { seen = c.feed.ensures.seen; versions = c.feed.ensures.versions; fed = c.feed.ensures.fed; graph = c.feed.ensures.graph })

pub feed-requires-2 : goal.feed-requires-2
feed-requires-2 g c =
    let room = fed_room c.args.code.now c.loop-rest.rest.now c.args.scan.now c.loop-rest.scan c.loop-rest.invariant in record { small = omega arith }

pub returns : goal.returns
returns g c =
    let rest = c.loop-rest.rest.now in
    let all =
    fed_all c.args.code.now c.args.scan.now c.feed-2.new.self
    (fed_more c.args.code.now rest rest [] c.args.scan.now c.loop-rest.scan c.feed-2.new.self c.loop-rest.invariant (append-nil rest)
    (record { seen = c.feed-2.ensures.seen; versions = c.feed-2.ensures.versions; fed = c.feed-2.ensures.fed; graph = c.feed-2.ensures.graph })) in
    record { seen = all.seen; versions = all.versions; graph = all.graph }
