pub mod SunMoon
