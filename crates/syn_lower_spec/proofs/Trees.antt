-- A list of trees and the type of its own are each other's inverse.
use Rattle.std.proofs.Common.{◌≡◌, List, [], ◌∷◌, refl}
use Rattle.syn_lower_spec.specs.Tree.{TypeTree, SegmentTree, GenericTree, FnArgTree, BoundTree, Types, Segments, Generics, FnArgs, Bounds, no_types, more_types, no_segments, more_segments, no_generics, more_generics, no_args, more_args, no_bounds, more_bounds, types, types_of, segments, segments_of, generics, generics_of, args, args_of, bounds, bounds_of}
use Rattle.syn_lower_spec.specs.Pat.{PatTree, FieldPatTree, Pats, Fields, no_pats, more_pats, no_fields, more_fields, pats, pats_of, fields, fields_of}

pub types-types_of : (ts : List TypeTree) → types (types_of ts) ≡ ts
types-types_of [] = refl
types-types_of (t ∷ ts) = let e = types-types_of ts in cc

pub types_of-types : (ts : Types) → types_of (types ts) ≡ ts
types_of-types no_types = refl
types_of-types (more_types t ts) = let e = types_of-types ts in cc

pub segments-segments_of : (ss : List SegmentTree) → segments (segments_of ss) ≡ ss
segments-segments_of [] = refl
segments-segments_of (s ∷ ss) = let e = segments-segments_of ss in cc

pub segments_of-segments : (ss : Segments) → segments_of (segments ss) ≡ ss
segments_of-segments no_segments = refl
segments_of-segments (more_segments w a ss) = let e = segments_of-segments ss in cc

pub generics-generics_of : (gs : List GenericTree) → generics (generics_of gs) ≡ gs
generics-generics_of [] = refl
generics-generics_of (g ∷ gs) = let e = generics-generics_of gs in cc

pub generics_of-generics : (gs : Generics) → generics_of (generics gs) ≡ gs
generics_of-generics no_generics = refl
generics_of-generics (more_generics g gs) = let e = generics_of-generics gs in cc

pub args-args_of : (xs : List FnArgTree) → args (args_of xs) ≡ xs
args-args_of [] = refl
args-args_of (x ∷ xs) = let e = args-args_of xs in cc

pub args_of-args : (xs : FnArgs) → args_of (args xs) ≡ xs
args_of-args no_args = refl
args_of-args (more_args n t xs) = let e = args_of-args xs in cc

pub bounds-bounds_of : (bs : List BoundTree) → bounds (bounds_of bs) ≡ bs
bounds-bounds_of [] = refl
bounds-bounds_of (b ∷ bs) = let e = bounds-bounds_of bs in cc

pub bounds_of-bounds : (bs : Bounds) → bounds_of (bounds bs) ≡ bs
bounds_of-bounds no_bounds = refl
bounds_of-bounds (more_bounds b bs) = let e = bounds_of-bounds bs in cc

pub pats-pats_of : (ps : List PatTree) → pats (pats_of ps) ≡ ps
pats-pats_of [] = refl
pats-pats_of (p ∷ ps) = let e = pats-pats_of ps in cc

pub pats_of-pats : (ps : Pats) → pats_of (pats ps) ≡ ps
pats_of-pats no_pats = refl
pats_of-pats (more_pats p ps) = let e = pats_of-pats ps in cc

pub fields-fields_of : (fs : List FieldPatTree) → fields (fields_of fs) ≡ fs
fields-fields_of [] = refl
fields-fields_of (f ∷ fs) = let e = fields-fields_of fs in cc

pub fields_of-fields : (fs : Fields) → fields_of (fields fs) ≡ fs
fields_of-fields no_fields = refl
fields_of-fields (more_fields a f fs) = let e = fields_of-fields fs in cc
