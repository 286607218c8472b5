use Rattle.link_instances.specs.References.{with_base}
use Rattle.link_types.proofs.TypesGrow.{grows_refl}
use Rattle.link_instances.proofs.Growing.{base_added, more_bases, known_stays, has_types_stays}
use Rattle.link_instances.proofs.instances.Instances.add.Goals as goal

pub returns-clause-stand : goal.returns-clause-stand
returns-clause-stand c = λ t w exports h is. record {
  bases = rw c.in_ok-push.ensures.items (base_added t w c.args.self.now.bases.items c.args.listing exports h.bases is);
  known = λ p k. known_stays t t w (with_base w exports) (grows_refl t) (more_bases w exports) p (h.known p k);
  of_types = λ type base found. has_types_stays t t w (with_base w exports) (grows_refl t) (more_bases w exports) type base (h.of_types type base found);
}
