use Rattle.std.proofs.Common.{◌≤◌, All, refl, subst, sym, ◌∙◌}
use Rattle.serde_json.specs.View.{view}
use Rattle.job_table.specs.Limits.{longest}
use Rattle.job_table.specs.Table.{captured_of}
use Rattle.summary_spec.specs.Declaration.{Parts}
use Rattle.summary_spec.proofs.Keeping.{lawful, skews_many, skews_most, unclocked, unnamed}
use Rattle.summary_spec.proofs.reading.declaration.Goals as goal

pub invariant_of-result : goal.invariant_of-result
invariant_of-result c =
    let lists = c.in_ok-captures.field-0 in
    let skew = c.in_ok-skew.skew in
    let filled = c.in_ok-skews.ensures in
    let parts : Parts = record {
      version = c.in_ok-version.version;
      port = c.in_ok-port.port;
      names = record { vars = c.in_ok-vars.vars; captures = lists.names };
      files = lists.files;
      offsets = lists.offsets;
      skews = c.in_ok-skews.skews;
      interfaces = lists.interfaces;
      takes = c.in_ok-vars.takes;
      filter_text = c.in_ok-filter_text.filter_text;
      filter = c.in_ok-filter_text.filter;
      key = c.in_ok-key.key;
      window = c.in_ok-window.window;
      skew = skew;
      profile = c.in_ok-profile.profile;
      query = c.in_ok-query.query;
    } in
    record {
      lawful = lawful parts (record {
        version = c.in_ok-version.ensures.limits;
        port = c.in_ok-port.ensures.limits;
        captures = c.in_ok-captures.ensures.counts;
        files = c.in_ok-captures.ensures.files;
        offsets = c.in_ok-captures.ensures.offsets;
        offset_limits = c.in_ok-captures.ensures.offset_limits;
        skews = rw filled (skews_many skew lists.own_skews.items ∙ c.in_ok-captures.ensures.own_skews);
        skew_limits = subst (λ ns. All (λ n. n ≤ longest) ns) (sym filled) (skews_most skew lists.own_skews.items c.in_ok-skew.ensures.most c.in_ok-captures.ensures.skew_limits);
        first_version = unclocked parts (view c.args.value.now) (captured_of lists) c.in_ok-captures.ensures.answer refl filled;
        interfaces = c.in_ok-captures.ensures.interfaces;
        interface_limits = c.in_ok-captures.ensures.interface_limits;
        early_versions = unnamed parts (view c.args.value.now) (captured_of lists) c.in_ok-captures.ensures.answer refl c.in_ok-version.ensures.limits.0;
        vars = c.in_ok-vars.ensures.counts;
        takes = c.in_ok-vars.ensures.takes;
        alternatives = c.in_ok-vars.ensures.alternatives;
        filter = c.in_ok-filter_text.ensures.parsed;
        key = c.in_ok-key.ensures.counts;
        key_variables = c.in_ok-key.ensures.within;
        window = c.in_ok-window.ensures.most;
        skew = c.in_ok-skew.ensures.most;
        query = c.in_ok-query.ensures.lawful;
      });
    }
