-- The job of a sample is lawful.
use Rattle.std.proofs.Common.{◌≡◌, ◌≤◌, ◌<◌, ℕ, pos, List, [], ◌∷◌, All, Option, None, IfSome, map, codes, unsigned_abs, refl, sym, subst, arith, true}
use Rattle.std.proofs.lemmas.List.Elements.{All-nil, All-cons}
use Rattle.field_table.specs.declared.field_ref.FieldRef.{FieldRef}
use Rattle.field_table.specs.declared.kind.Kind.TheVariants.{Ipv4}
use Rattle.query_lang.specs.Expression.{Literal}
use Rattle.job_table.specs.Limits.{longest, last_interface, Counts}
use Rattle.summary_spec.specs.Declaration.{Declared, Loops}
use Rattle.summary_spec.specs.Lawful.{IsLawful}
use Rattle.summary_spec.proofs.CountText.{one_is}
use Rattle.trace_gen.specs.Captures.{point_name, points}
use Rattle.trace_gen.specs.SampleJob.{only_field, sample_job}
use Rattle.trace_gen.proofs.SampleFields.{id_is, ttl_is}

-- a list of one item again and again
all_same : {X Y : Type 0} (P : X → Type 0) (x : X) → P x → (items : List Y) → All P (map (λ _. x) items)
all_same P x holds [] = All-nil P
all_same P x holds (item ∷ items) = All-cons P x (map (λ _. x) items) holds (all_same P x holds items)

id_ref : FieldRef
id_ref = record { kind = Ipv4; inside = true; steps = 0; field = 4; is_near = omega arith; is_field = omega arith }

ttl_ref : FieldRef
ttl_ref = record { kind = Ipv4; inside = true; steps = 0; field = 7; is_near = omega arith; is_field = omega arith }

one_alternative : (fields : List FieldRef) (f : FieldRef) → fields ≡ f ∷ [] → Counts 1 4 fields
one_alternative fields f e = subst (Counts 1 4) (sym e) (omega arith, omega arith)

pub sample_lawful : IsLawful sample_job
unfolding id_ref ttl_ref
sample_lawful = record {
  version = (omega arith, omega arith);
  port = (omega arith, omega arith);
  captures = (omega arith, omega arith);
  files = refl;
  offsets = refl;
  offset_limits = all_same (λ offset. unsigned_abs offset ≤ longest) (pos 0) (omega arith) points;
  skews = refl;
  skew_limits = all_same (λ skew. skew ≤ longest) 0 (omega arith) points;
  first_version = λ _. record {
    offsets = all_same (λ offset. offset ≡ pos 0) (pos 0) refl points;
    skews = all_same (λ skew. skew ≡ 0) 0 refl points;
  };
  interfaces = refl;
  interface_limits = all_same (λ (own : Option ℕ). IfSome own (λ n. n ≤ last_interface)) None tt points;
  early_versions = λ _. all_same (λ (own : Option ℕ). own ≡ None) None refl points;
  vars = (omega arith, omega arith);
  takes = refl;
  alternatives =
      All-cons (Counts 1 4) (only_field (codes "ipv4[-1].id")) (only_field (codes "ipv4[-1].ttl") ∷ [])
      (one_alternative (only_field (codes "ipv4[-1].id")) id_ref (id_is id_ref refl refl refl refl))
      (All-cons (Counts 1 4) (only_field (codes "ipv4[-1].ttl")) []
      (one_alternative (only_field (codes "ipv4[-1].ttl")) ttl_ref (ttl_is ttl_ref refl refl refl refl))
      (All-nil (Counts 1 4)));
  filter = record {
    short = omega arith;
    gives = one_is sample_job.vars sample_job.captures (codes "1") refl;
    terms = tt;
    variables = tt;
  };
  key = (omega arith, omega arith);
  key_variables = All-cons (λ v. v < 2) 0 [] (omega arith) (All-nil (λ v. v < 2));
  window = omega arith;
  skew = omega arith;
  query = omega arith;
}

-- what is declared, part by part
pub declares_sample : (d : Declared) → d.version ≡ 1 → d.port ≡ 4789 → d.vars ≡ codes "id" ∷ codes "ttl" ∷ [] → d.captures ≡ map point_name points
    → d.files ≡ map point_name points → d.offsets ≡ map (λ _. pos 0) points → d.skews ≡ map (λ _. 0) points → d.interfaces ≡ map (λ _. None) points
    → d.takes ≡ only_field (codes "ipv4[-1].id") ∷ only_field (codes "ipv4[-1].ttl") ∷ [] → d.filter_text ≡ codes "1" → d.filter ≡ Literal 1
    → d.key ≡ 0 ∷ [] → d.window ≡ 100000 → d.skew ≡ 0 → d.profile ≡ true → d.query ≡ Loops 1 → d ≡ sample_job
declares_sample d version port vars captures files offsets skews interfaces takes filter_text filter key window skew profile query =
    λ i. record {
      version = version i;
      port = port i;
      vars = vars i;
      captures = captures i;
      files = files i;
      offsets = offsets i;
      skews = skews i;
      interfaces = interfaces i;
      takes = takes i;
      filter_text = filter_text i;
      filter = filter i;
      key = key i;
      window = window i;
      skew = skew i;
      profile = profile i;
      query = query i;
    }

pub lawful_as_sample : (d : Declared) → d ≡ sample_job → IsLawful d
lawful_as_sample d e = subst IsLawful (sym e) sample_lawful
