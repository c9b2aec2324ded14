-- The proof of the cycle of calls {coarse_correction, cycle}. Assumes nothing.
use Rattle.std.proofs.Common.{rules, refl, ◌∙◌}
use Rattle.cycle.proofs.Levels.{cycles, labels_few, level_asked, air_listed, band_listed, cleared, cleared_end, stroke_end, corrected_end, level_end, same_ready, all_air, corrected_quiet, two_levels, two_rooms, lent_ready, lent_end, home_room, home_quiet, corrected_is, cycle_more}
use Rattle.cycle.proofs.+coarse_correction_cycle.Goals as goal

pub coarse_correction-level_labels-labels-requires : goal.coarse_correction-level_labels-labels-requires
coarse_correction-level_labels-labels-requires t c = search cycles

pub coarse_correction-level_labels-below-requires : goal.coarse_correction-level_labels-below-requires
coarse_correction-level_labels-below-requires t c = search cycles

pub coarse_correction-lower-requires : goal.coarse_correction-lower-requires
coarse_correction-lower-requires t c =
    let r = c.requires in
    let g = c.sides_at-g.ensures in
    let h = c.sides_at-h.ensures in
    let ls = c.level_labels-labels.ensures in
    let lc = c.level_labels-below.ensures in
    record {
      two_levels = two_levels r.ready r.k_bound g h ls lc;
      h_in_bounds = two_rooms r.ready r.k_bound g h ls lc;
      ended = level_end r.ready g r.ended;
      air_list = all_air r.ready g ls c.level_air-air.ensures;
    }

pub coarse_correction-overflow_mul-start : goal.coarse_correction-overflow_mul-start
coarse_correction-overflow_mul-start t c =
    let few = labels_few c.requires.ready c.sides_at-g.ensures c.level_labels-labels.ensures in
    search rules

pub coarse_correction-offset_bounds-room-start : goal.coarse_correction-offset_bounds-room-start
coarse_correction-offset_bounds-room-start t c =
    let few = labels_few c.requires.ready c.sides_at-g.ensures c.level_labels-labels.ensures in
    search rules

pub coarse_correction-slice_bounds-cycle-count : goal.coarse_correction-slice_bounds-cycle-count
coarse_correction-slice_bounds-cycle-count t c = search cycles

pub coarse_correction-slice_bounds-cycle-start : goal.coarse_correction-slice_bounds-cycle-start
coarse_correction-slice_bounds-cycle-start t c = search cycles

pub coarse_correction-cycle-requires : goal.coarse_correction-cycle-requires
coarse_correction-cycle-requires t c =
    let r = c.requires in
    let g = c.sides_at-g.ensures in
    let h = c.sides_at-h.ensures in
    let ls = c.level_labels-labels.ensures in
    let lc = c.level_labels-below.ensures in
    (search cycles, (lent_ready r.ready r.k_bound g h ls lc c.lower.new.room c.lower.auto.room, lent_end r.ready r.k_bound g h ls lc _ _ refl r.ended c.lower.ensures))

pub coarse_correction-correct-requires : goal.coarse_correction-correct-requires
coarse_correction-correct-requires t c =
    let r = c.requires in
    let g = c.sides_at-g.ensures in
    let h = c.sides_at-h.ensures in
    let ls = c.level_labels-labels.ensures in
    let lc = c.level_labels-below.ensures in
    record {
      two_levels = two_levels r.ready r.k_bound g h ls lc;
      h_in_bounds = home_room r.ready r.k_bound g h ls lc c.lower.new.room c.cycle.new.room c.lower.auto.room c.cycle.auto.room;
      quiet = home_quiet r.ready r.k_bound g h ls lc _ _ c.lower.auto.room c.cycle.ensures;
    }

pub coarse_correction-returns : goal.coarse_correction-returns
coarse_correction-returns t c =
    let r = c.requires in
    let g = c.sides_at-g.ensures in
    let h = c.sides_at-h.ensures in
    let ls = c.level_labels-labels.ensures in
    let lc = c.level_labels-below.ensures in
    corrected_is r.ready r.k_bound g h ls lc _ _ _ _ refl c.lower.ensures c.cycle.ensures c.correct.ensures

pub cycle-level_labels-labels-requires : goal.cycle-level_labels-labels-requires
cycle-level_labels-labels-requires t c = search cycles

pub cycle-clear_u-requires : goal.cycle-clear_u-requires
cycle-clear_u-requires t c = search cycles

pub cycle-coarsest-requires : goal.cycle-coarsest-requires
cycle-coarsest-requires t c =
    let r = c.requires in
    let g = c.sides_at-g.ensures in
    let ls = c.level_labels-labels.ensures in
    let zero = cleared_end r.ready g _ _ refl r.ended c.clear_u.ensures in
    record {
      level = level_asked r.ready g ls _ c.clear_u.auto.room;
      ended = level_end r.ready g zero;
      list_value = air_listed r.ready g ls c.level_list-list.ensures c.if-k-count.false;
      room_value = cleared r.ready g _ _ refl c.clear_u.ensures;
    }

pub cycle-downstroke-requires : goal.cycle-downstroke-requires
cycle-downstroke-requires t c =
    let r = c.requires in
    let g = c.sides_at-g.ensures in
    let ls = c.level_labels-labels.ensures in
    let zero = cleared_end r.ready g _ _ refl r.ended c.clear_u.ensures in
    record {
      k_bound = search rules;
      level = level_asked r.ready g ls _ c.clear_u.auto.room;
      ended = level_end r.ready g zero;
      list_value = band_listed r.ready g ls c.level_list-list.ensures c.if-k-count.true;
      air_list = all_air r.ready g ls c.level_air-air.ensures;
      room_value = cleared r.ready g _ _ refl c.clear_u.ensures;
    }

pub cycle-coarse_correction-requires : goal.cycle-coarse_correction-requires
cycle-coarse_correction-requires t c =
    let r = c.requires in
    let g = c.sides_at-g.ensures in
    let zero = cleared_end r.ready g _ _ refl r.ended c.clear_u.ensures in
    (search rules, (same_ready r.ready _ (c.downstroke.auto.room ∙ c.clear_u.auto.room), (stroke_end r.ready g _ _ _ zero c.downstroke.ensures, c.if-k-count.true)))

pub cycle-upstroke-requires : goal.cycle-upstroke-requires
cycle-upstroke-requires t c =
    let r = c.requires in
    let g = c.sides_at-g.ensures in
    let ls = c.level_labels-labels.ensures in
    let zero = cleared_end r.ready g _ _ refl r.ended c.clear_u.ensures in
    let zero_then = stroke_end r.ready g _ _ _ zero c.downstroke.ensures in
    let zero_last = corrected_end r.ready _ _ zero_then c.coarse_correction.ensures in
    record {
      k_bound = search rules;
      level = level_asked r.ready g ls _ (c.coarse_correction.auto.room ∙ c.downstroke.auto.room ∙ c.clear_u.auto.room);
      ended = level_end r.ready g zero_last;
      list_value = band_listed r.ready g ls c.level_list-list.ensures c.if-k-count.true;
      air_list = all_air r.ready g ls c.level_air-air.ensures;
      quiet = corrected_quiet r.ready g ls _ _ c.coarse_correction.ensures;
    }

pub cycle-returns-then-k-count : goal.cycle-returns-then-k-count
cycle-returns-then-k-count t c =
    cycle_more c.requires.ready c.sides_at-g.ensures c.level_labels-labels.ensures c.level_list-list.ensures _ _ _ _ _ refl c.if-k-count.true c.clear_u.ensures c.downstroke.ensures c.coarse_correction.ensures c.upstroke.ensures

pub cycle-returns-else-k-count : goal.cycle-returns-else-k-count
cycle-returns-else-k-count t c = search cycles
