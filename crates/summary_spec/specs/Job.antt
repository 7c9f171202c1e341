-- What a job shows.
use Rattle.summary_spec.specs.declared.job.Job.{Job}
use Rattle.summary_spec.specs.Declaration.{Declared, Parts, declared}

-- its parts
abbrev pub parts_of : Job → Parts
parts_of job = record {
  version = job.version;
  port = job.port;
  names = job.names;
  files = job.files;
  offsets = job.offsets;
  skews = job.skews;
  interfaces = job.interfaces;
  takes = job.takes;
  filter_text = job.filter_text;
  filter = job.filter;
  key = job.key;
  window = job.window;
  skew = job.skew;
  profile = job.profile;
  query = job.query;
}

-- what it declares
abbrev pub declared_of : Job → Declared
declared_of job = declared (parts_of job)
