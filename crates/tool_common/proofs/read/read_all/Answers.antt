use Rattle.std.proofs.Common.{List, ℕ, [], ◌∷◌, map, option_map, None, refl, rules, arith, add-one, Bor, length-append}
use Rattle.std.proofs.Math.ListN.{get_or-map}
use Rattle.std.proofs.lemmas.List.{length-map, map-append}
use Rattle.tool_common.proofs.Gathered.{gave_more, stopped_at}
use Rattle.tool_common.proofs.InOrder.{read_first, read_more, read_whole}
use Rattle.tool_common.proofs.read.read_all.Goals as goal

pub returns-in_err-read_named-clause-stopped : goal.returns-in_err-read_named-clause-stopped
returns-in_err-read_named-clause-stopped g c =
    let named = option_map {T = Bor (List ℕ)} (λ n. n.now) in
    let here = rw (← get_or-map named c.args.names.now c.loop-name.name-index None) at c.in_err-read_named.ensures.stopped in
    let stop = stopped_at (g.F.Files.content c.args.files.now) (g.F.Files.content c.loop-name.files) c.loop-name.invariant.only_read.kept
    (g.F.Files.failed_name c.read_named.new.files) (map named c.args.names.now) c.loop-name.name-index (map (λ b. b.items) c.loop-name.all.items) c.in_err-read_named.field-0.0
    (omega (arith, c.loop-name-test.true, length-map c.args.names.now named)) c.loop-name.invariant.given here in
    search rules

pub returns-in_err-read_named-clause-in_order : goal.returns-in_err-read_named-clause-in_order
returns-in_err-read_named-clause-in_order g c =
    let named = option_map {T = Bor (List ℕ)} (λ n. n.now) in
    let here = rw (← get_or-map named c.args.names.now c.loop-name.name-index None) at c.in_err-read_named.ensures.in_order in
    read_first _ _ _ (map named c.args.names.now) c.loop-name.name-index (omega (arith, c.loop-name-test.true, length-map c.args.names.now named))
    c.loop-name.invariant.read _ _ here (search rules)

pub returns-in_err-push-clause-in_order : goal.returns-in_err-push-clause-in_order
returns-in_err-push-clause-in_order g c =
    let named = option_map {T = Bor (List ℕ)} (λ n. n.now) in
    let here = rw (← get_or-map named c.args.names.now c.loop-name.name-index None) at c.in_ok-read_named.ensures.in_order in
    read_first _ _ _ (map named c.args.names.now) c.loop-name.name-index (omega (arith, c.loop-name-test.true, length-map c.args.names.now named))
    c.loop-name.invariant.read _ _ here (search rules)

pub returns-clause-in_order : goal.returns-clause-in_order
returns-clause-in_order g c =
    let named = option_map {T = Bor (List ℕ)} (λ n. n.now) in
    read_whole _ _ (map named c.args.names.now) c.loop-name.name-index _ (omega (arith, c.loop-name-test.false, length-map c.args.names.now named))
    c.loop-name.invariant.read

pub loop-name-preserved : goal.loop-name-preserved
loop-name-preserved g c =
    let named = option_map {T = Bor (List ℕ)} (λ n. n.now) in
    let here = rw (← get_or-map named c.args.names.now c.loop-name.name-index None) at c.in_ok-read_named.ensures.gave in
    let more = gave_more (g.F.Files.content c.args.files.now) (g.F.Files.content c.loop-name.files) c.loop-name.invariant.only_read.kept
    (map named c.args.names.now) c.loop-name.name-index (map (λ b. b.items) c.loop-name.all.items) c.in_ok-read_named.field-0.items
    (omega (arith, c.loop-name-test.true, length-map c.args.names.now named)) c.loop-name.invariant.given here in
    let also = rw (← get_or-map named c.args.names.now c.loop-name.name-index None) at c.in_ok-read_named.ensures.in_order.whole refl in
    record {
      count = rw c.in_ok-push.ensures.items (omega (arith, length-append c.loop-name.all.items (c.in_ok-read_named.field-0 ∷ []), c.loop-name.invariant.count));
      given = rw (c.in_ok-push.ensures.items, map-append, add-one) more;
      only_read = search rules;
      no_fault = search rules;
      none_long = search rules;
      read = rw add-one (read_more _ _ _ (map named c.args.names.now) c.loop-name.name-index
          (omega (arith, c.loop-name-test.true, length-map c.args.names.now named)) c.loop-name.invariant.read also);
    }
