-- Lists whose values are seen through what holds them.
use Rattle.std.proofs.lemmas.List.Folds.{flat_map-map}
use Rattle.std.proofs.lemmas.Simd.{map-map}

pub ruleset maps = (map-map, flat_map-map)
