use Rattle.std.specs.Prelude.{◌++◌, option_to_list}
use Rattle.std.specs.Vec.Iter.{into_iter_items}
use Rattle.bit_roaring.proofs.Merged.{stops_at, stops_before, stops_past}
use Rattle.bit_roaring.proofs.keyed.merged.move_before.Goals as goal

pub returns-then-key-keyed-clause-replaces : goal.returns-then-key-keyed-clause-replaces
returns-then-key-keyed-clause-replaces c =
    let left = option_to_list c.args.next ++ into_iter_items c.args.rest.now in
    (stops_before (c.args.all.now.items ++ left) c.loop-head.all.items (into_iter_items c.loop-head.rest) c.loop-head.head c.in-Some.keyed c.args.key _ _ _ _ c.requires.keyed c.loop-head.invariant c.in-Some.is c.if-key-keyed.true).replaces

pub returns-then-key-keyed-clause-after : goal.returns-then-key-keyed-clause-after
returns-then-key-keyed-clause-after c =
    let left = option_to_list c.args.next ++ into_iter_items c.args.rest.now in
    (stops_before (c.args.all.now.items ++ left) c.loop-head.all.items (into_iter_items c.loop-head.rest) c.loop-head.head c.in-Some.keyed c.args.key _ _ _ _ c.requires.keyed c.loop-head.invariant c.in-Some.is c.if-key-keyed.true).after

pub returns-then-key-keyed-2-clause-keyed : goal.returns-then-key-keyed-2-clause-keyed
returns-then-key-keyed-2-clause-keyed c =
    let left = option_to_list c.args.next ++ into_iter_items c.args.rest.now in
    (stops_at (c.args.all.now.items ++ left) c.loop-head.all.items (into_iter_items c.loop-head.rest) (option_to_list c.next.result ++ into_iter_items c.next.new.self) c.loop-head.head c.in-Some.keyed c.args.key _ _ _ _ c.requires.keyed c.loop-head.invariant c.in-Some.is c.if-key-keyed-2.true c.next.ensures.items).keyed

pub returns-then-key-keyed-2-clause-replaces : goal.returns-then-key-keyed-2-clause-replaces
returns-then-key-keyed-2-clause-replaces c =
    let left = option_to_list c.args.next ++ into_iter_items c.args.rest.now in
    (stops_at (c.args.all.now.items ++ left) c.loop-head.all.items (into_iter_items c.loop-head.rest) (option_to_list c.next.result ++ into_iter_items c.next.new.self) c.loop-head.head c.in-Some.keyed c.args.key _ _ _ _ c.requires.keyed c.loop-head.invariant c.in-Some.is c.if-key-keyed-2.true c.next.ensures.items).replaces

pub returns-then-key-keyed-2-clause-after : goal.returns-then-key-keyed-2-clause-after
returns-then-key-keyed-2-clause-after c =
    let left = option_to_list c.args.next ++ into_iter_items c.args.rest.now in
    (stops_at (c.args.all.now.items ++ left) c.loop-head.all.items (into_iter_items c.loop-head.rest) (option_to_list c.next.result ++ into_iter_items c.next.new.self) c.loop-head.head c.in-Some.keyed c.args.key _ _ _ _ c.requires.keyed c.loop-head.invariant c.in-Some.is c.if-key-keyed-2.true c.next.ensures.items).after

pub returns-clause-replaces : goal.returns-clause-replaces
returns-clause-replaces c =
    let left = option_to_list c.args.next ++ into_iter_items c.args.rest.now in
    (stops_past (c.args.all.now.items ++ left) c.loop-head.all.items (into_iter_items c.loop-head.rest) c.loop-head.head c.args.key _ _ _ _ c.requires.keyed c.loop-head.invariant c.in_default.is).replaces

pub returns-clause-after : goal.returns-clause-after
returns-clause-after c =
    let left = option_to_list c.args.next ++ into_iter_items c.args.rest.now in
    (stops_past (c.args.all.now.items ++ left) c.loop-head.all.items (into_iter_items c.loop-head.rest) c.loop-head.head c.args.key _ _ _ _ c.requires.keyed c.loop-head.invariant c.in_default.is).after
