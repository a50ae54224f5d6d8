use Rattle.bit_blocks.proofs.Clipped.{parts_are_runs, parts_meet, places_ordered, same_between}
use Rattle.bit_blocks.proofs.ranged.meeting.Goals as goal

pub slice_bounds-result-count : goal.slice_bounds-result-count
slice_bounds-result-count c =
    places_ordered c.args.runs.now c.args.first c.args.last c.ended_before-from.result c.place_of-upto.result c.requires.runs c.requires.ordered c.ended_before-from.ensures.within c.place_of-upto.ensures.within c.ended_before-from.ensures.split c.place_of-upto.ensures.split

pub slice_bounds-result-start : goal.slice_bounds-result-start
slice_bounds-result-start c =
    places_ordered c.args.runs.now c.args.first c.args.last c.ended_before-from.result c.place_of-upto.result c.requires.runs c.requires.ordered c.ended_before-from.ensures.within c.place_of-upto.ensures.within c.ended_before-from.ensures.split c.place_of-upto.ensures.split

pub returns-clause-runs : goal.returns-clause-runs
returns-clause-runs c =
    parts_are_runs c.args.runs.now c.args.first c.args.last c.ended_before-from.result c.place_of-upto.result c.requires.runs c.requires.ordered c.ended_before-from.ensures.within c.place_of-upto.ensures.within c.ended_before-from.ensures.split c.place_of-upto.ensures.split

pub returns-clause-meet : goal.returns-clause-meet
returns-clause-meet c =
    parts_meet c.args.runs.now c.args.first c.args.last c.ended_before-from.result c.place_of-upto.result c.requires.runs c.requires.ordered c.ended_before-from.ensures.within c.place_of-upto.ensures.within c.ended_before-from.ensures.split c.place_of-upto.ensures.split

pub returns-clause-same : goal.returns-clause-same
returns-clause-same c =
    same_between c.args.runs.now c.args.first c.args.last c.ended_before-from.result c.place_of-upto.result c.requires.runs c.requires.ordered c.ended_before-from.ensures.within c.place_of-upto.ensures.within c.ended_before-from.ensures.split c.place_of-upto.ensures.split
